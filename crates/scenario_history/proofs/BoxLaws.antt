-- What boxes took, unit by unit and all together.
use Rattle.scenario_history.proofs.Prelude.{◌≡◌, ◌≢◌, ℕ, ◌+◌, ◌-◌, zero, suc, Bool, true, false, eqb, List, [], ◌∷◌, ◌++◌, length, map, drop, refl, sym, ap, ◌∙◌, append_assoc, arith, slice_get, slice_set, Option, None, Some, length-append, length-drop, ◌<◌, inl, inr, drop-drop, drop-append-le, sum_by-cons, Account, with_unit, kept_after, Handed, valid, lost, SinkUnit, no_account, account_at, with_handed, accounts_after, onto_valid, valid_for, kept_with, with_units, Took}
use Rattle.std.specs.Prelude.{slice_index_or, option_map, sum}
use Rattle.std.proofs.lemmas.Bool.Decides.{eqb_tells}
use Rattle.circular_buffer.specs.Buffer.{keep_last}

-- ---- the newest of a list

pub keep_again : {X : Type 0} (n : ℕ) (xs ys : List X) → keep_last n (keep_last n xs ++ ys) ≡ keep_last n (xs ++ ys)
keep_again n xs ys =
    let k = length xs - n in
    let prefix : drop k xs ++ ys ≡ drop k (xs ++ ys) = sym (drop-append-le k xs ys (omega arith)) in
    let count : k + (length (drop k (xs ++ ys)) - n) ≡ length (xs ++ ys) - n = omega (arith, length-drop k (xs ++ ys), length-append xs ys) in
    ap (keep_last n) prefix ∙ drop-drop (length (drop k (xs ++ ys)) - n) k (xs ++ ys) ∙ ap (λ i. drop i (xs ++ ys)) count

kept_step : (greatest : ℕ) (unit : List ℕ) (units : List (List ℕ)) (kept : Option (List (List ℕ)))
    → kept_with greatest units (kept_after greatest unit kept) ≡ kept_with greatest (unit ∷ units) kept
kept_step greatest unit [] None = refl
kept_step greatest unit (u ∷ units) None = refl
kept_step greatest unit [] (Some kept) = refl
kept_step greatest unit (u ∷ units) (Some kept) =
    ap Some (keep_again greatest (kept ++ unit ∷ []) (u ∷ units) ∙ ap (keep_last greatest) (append_assoc kept (unit ∷ []) (u ∷ units)))

-- ---- an account

abbrev with_sums : Account → ℕ → ℕ → Option (List (List ℕ)) → Account
with_sums account units octets kept = record account { units = units; octets = octets; kept = kept }

sums_same : (account : Account) (m n a b : ℕ) (j k : Option (List (List ℕ))) → m ≡ n → a ≡ b → j ≡ k → with_sums account m a j ≡ with_sums account n b k
sums_same account m n a b j k p q r =
    ap (λ x. with_sums account x a j) p ∙ ap (λ x. with_sums account n x j) q ∙ ap (λ x. with_sums account n b x) r

with_none : (account : Account) → with_units account [] ≡ account
with_none account =
    sums_same account (account.units + 0) account.units (account.octets + 0) account.octets account.kept account.kept (omega arith) (omega arith) refl

with_more : (account : Account) (unit : List ℕ) (units : List (List ℕ)) → with_units (with_unit unit account) units ≡ with_units account (unit ∷ units)
with_more account unit units =
    sums_same
    account (account.units + 1 + length units) (account.units + suc (length units)) (account.octets + length unit + sum (map length units))
    (account.octets + sum (map length (unit ∷ units))) (kept_with account.greatest units (kept_after account.greatest unit account.kept))
    (kept_with account.greatest (unit ∷ units) account.kept) (omega arith)
    (omega (arith, sum_by-cons (λ x. x) (length unit) (map length units))) (kept_step account.greatest unit units account.kept)

-- ---- the boxes

map_same : {A : Type 0} (f : A → A) → ((a : A) → f a ≡ a) → (o : Option A) → o ≡ option_map f o
map_same f same None = refl
map_same f same (Some a) = ap Some (sym (same a))

map_then : {A : Type 0} (f g h : A → A) → ((a : A) → g (f a) ≡ h a) → (o : Option A) → option_map g (option_map f o) ≡ option_map h o
map_then f g h same None = refl
map_then f g h same (Some a) = ap Some (same a)

get_set : {A : Type 0} (xs : List A) (i : ℕ) (d : A) (f : A → A) → slice_get (slice_set xs i (f (slice_index_or xs i d))) i ≡ option_map f (slice_get xs i)
get_set [] i d f = refl
get_set (x ∷ xs) zero d f = refl
get_set (x ∷ xs) (suc i) d f = get_set xs i d f

pub get_set_here : {A : Type 0} (xs : List A) (i : ℕ) (x : A) → i < length xs → slice_get (slice_set xs i x) i ≡ Some x
get_set_here [] i x h = absurd (omega arith)
get_set_here (y ∷ xs) zero x h = refl
get_set_here (y ∷ xs) (suc i) x h = get_set_here xs i x (omega arith)

pub get_set_other : {A : Type 0} (xs : List A) (i j : ℕ) (x : A) → j ≢ i → slice_get (slice_set xs i x) j ≡ slice_get xs j
get_set_other [] i j x h = refl
get_set_other (y ∷ xs) zero zero x h = absurd (h refl)
get_set_other (y ∷ xs) zero (suc j) x h = refl
get_set_other (y ∷ xs) (suc i) zero x h = refl
get_set_other (y ∷ xs) (suc i) (suc j) x h = get_set_other xs i j x (λ e. h (ap suc e))

-- one unit goes to its box
took_step : (starts : List Account) (place : ℕ) (handed : Handed) (box : ℕ) (rest : List (List ℕ))
    → option_map (λ account. with_units account rest) (slice_get (with_handed starts place handed) box)
    ≡ option_map (λ account. with_units account (onto_valid (eqb place box) handed rest)) (slice_get starts box)
took_step starts place (lost bis time) box rest = refl
took_step starts place (valid bis time octets) box rest = elim (eqb_tells place box) [
  | inl is ↦
      let set : List Account = slice_set starts place (with_unit octets (account_at starts place)) in
      let here : slice_get set box ≡ option_map (with_unit octets) (slice_get starts box) =
      ap (slice_get set) (sym is.1) ∙ get_set starts place no_account (with_unit octets) ∙ ap (λ i. option_map (with_unit octets) (slice_get starts i)) is.1 in
      ap (option_map (λ account. with_units account rest)) here
      ∙ map_then (with_unit octets) (λ account. with_units account rest) (λ account. with_units account (octets ∷ rest)) (λ account. with_more account octets rest) (slice_get starts box)
      ∙ ap (λ b. option_map (λ account. with_units account (onto_valid b (valid bis time octets) rest)) (slice_get starts box)) (sym is.0)
  | inr not ↦
      ap (option_map (λ account. with_units account rest)) (get_set_other starts place box (with_unit octets (account_at starts place)) (λ same. not.1 (sym same)))
      ∙ ap (λ b. option_map (λ account. with_units account (onto_valid b (valid bis time octets) rest)) (slice_get starts box)) (sym not.0)
]

pub took_all : (starts : List Account) (units : List SinkUnit) → Took starts (accounts_after starts units) units
took_all starts [] box = map_same (λ account. with_units account []) with_none (slice_get starts box)
took_all starts (unit ∷ units) box =
    took_all (with_handed starts unit.box unit.unit) units box ∙ took_step starts unit.box unit.unit box (valid_for box units)

-- ---- the units of a box in order

onto_more : (is_its : Bool) (handed : Handed) (us vs : List (List ℕ)) → onto_valid is_its handed (us ++ vs) ≡ onto_valid is_its handed us ++ vs
onto_more true (valid bis time octets) us vs = refl
onto_more false (valid bis time octets) us vs = refl
onto_more true (lost bis time) us vs = refl
onto_more false (lost bis time) us vs = refl

pub valid_append : (box : ℕ) (us vs : List SinkUnit) → valid_for box (us ++ vs) ≡ valid_for box us ++ valid_for box vs
valid_append box [] vs = refl
valid_append box (u ∷ us) vs =
    ap (onto_valid (eqb u.box box) u.unit) (valid_append box us vs) ∙ onto_more (eqb u.box box) u.unit (valid_for box us) (valid_for box vs)
