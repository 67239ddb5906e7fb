-- The wishes of subgroups, one behind the other.
use Rattle.link_c.proofs.Prelude.{◌≡◌, ℕ, suc, arith, List, [], ◌∷◌, ◌++◌, length, Option, Some, None, refl, ap, sym, ◌∙◌, ◌≤◌, ◌==◌, true, false, append_assoc, eqb-true, counted_in, ◌>>=◌, MetadataFits, Wish, wish}
use Rattle.std.proofs.lemmas.List.{append-nil}
use Rattle.link_c.specs.Wishes.{wishes_in}

-- the first wishes, and those that are read behind them
abbrev pub with_prefix : List Wish → Option (List Wish) → Option (List Wish)
with_prefix prefix None = None
with_prefix prefix (Some back) = Some (prefix ++ back)

one_in_prefix : (first : Wish) (read : Option (List Wish)) → (read >>= λ wishes. Some (first ∷ wishes)) ≡ with_prefix (first ∷ []) read
one_in_prefix first None = refl
one_in_prefix first (Some wishes) = refl

then_one : (prefix : List Wish) (first : Wish) (read : Option (List Wish)) → with_prefix prefix (with_prefix (first ∷ []) read) ≡ with_prefix (prefix ++ first ∷ []) read
then_one prefix first None = refl
then_one prefix first (Some wishes) = ap (λ (all : List Wish). Some all) (sym (append_assoc prefix (first ∷ []) wishes))

pub read_next : (prefix : List Wish) (bits : ℕ) (others octets metadata rest : List ℕ) → counted_in octets ≡ Some (metadata, rest)
    → with_prefix (prefix ++ wish bits metadata ∷ []) (wishes_in others rest) ≡ with_prefix prefix (wishes_in (bits ∷ others) octets)
unfolding wishes_in
read_next prefix bits others octets metadata rest is =
    sym (then_one prefix (wish bits metadata) (wishes_in others rest))
    ∙ ap (with_prefix prefix) (sym (one_in_prefix (wish bits metadata) (wishes_in others rest)))
    ∙ ap (λ (read : Option (List ℕ × List ℕ)). with_prefix prefix (read >>= λ taken. wishes_in others taken.1 >>= λ wishes. Some (wish bits taken.0 ∷ wishes))) (sym is)

pub read_never : (prefix : List Wish) (bits : ℕ) (others octets : List ℕ) → counted_in octets ≡ None → with_prefix prefix (wishes_in (bits ∷ others) octets) ≡ None
unfolding wishes_in
read_never prefix bits others octets is =
    ap (λ (read : Option (List ℕ × List ℕ)). with_prefix prefix (read >>= λ taken. wishes_in others taken.1 >>= λ wishes. Some (wish bits taken.0 ∷ wishes))) is

pub read_end : (prefix : List Wish) (rest : List ℕ) → (length rest == 0) ≡ true → with_prefix prefix (wishes_in [] rest) ≡ Some prefix
unfolding wishes_in
read_end prefix [] is = ap (λ (all : List Wish). Some all) (append-nil prefix)
read_end prefix (octet ∷ rest) is =
    let none : suc (length rest) ≡ 0 = eqb-true (suc (length rest)) 0 is in
    absurd (omega (arith, none))

pub read_past : (prefix : List Wish) (rest : List ℕ) → (length rest == 0) ≡ false → with_prefix prefix (wishes_in [] rest) ≡ None
unfolding wishes_in
read_past prefix [] is = absurd cc
read_past prefix (octet ∷ rest) is = refl

pub one_more : (wishes : List Wish) (last : Wish) → MetadataFits wishes → length last.metadata ≤ 255 → MetadataFits (wishes ++ last ∷ [])
one_more [] last fit short = (short, tt)
one_more (first ∷ wishes) last fit short = (fit.0, one_more wishes last fit.1 short)
