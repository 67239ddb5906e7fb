-- Lines that are put behind a text.
use Rattle.scenario_sink.proofs.Prelude.{ℕ, zero, suc, ◌≡◌, ◌+◌, List, [], ◌∷◌, ◌++◌, map, sym, ap, ◌∙◌, append_assoc, arith, concat, flat_map, range_with_len, append-nil, Lines}
use Rattle.std.proofs.lemmas.List.Folds.{concat-append}
use Rattle.std.proofs.lemmas.List.FromFn.{map-range_with_len_more}

pub nothing_put : (text : List ℕ) → text ≡ text ++ []
nothing_put text = sym (append-nil text)

pub one_put : (text told line : List ℕ) → told ≡ text ++ line → told ≡ text ++ concat (line ∷ [])
one_put text told line is = is ∙ ap (λ (l : List ℕ). text ++ l) (sym (append-nil line))

pub two_put : (text mid told line other : List ℕ) → mid ≡ text ++ line → told ≡ mid ++ other → told ≡ text ++ concat (line ∷ other ∷ [])
two_put text mid told line other first is = grind (arith, append_assoc, append-nil)

pub more_put : (text mid told : List ℕ) (lines others : Lines) → mid ≡ text ++ concat lines → told ≡ mid ++ concat others → told ≡ text ++ concat (lines ++ others)
more_put text mid told lines others first is = grind (arith, concat, append_assoc, concat-append)

-- ---- the lines of all slots

range_more : {X : Type 0} (f : ℕ → List X) (start n : ℕ) → flat_map f (range_with_len start (suc n)) ≡ flat_map f (range_with_len start n) ++ f (start + n)
range_more f start zero = grind (arith, append-nil)
range_more f start (suc n) =
    let same : (start + 1) + n ≡ start + suc n = omega arith in
    ap (λ l. f start ++ l) (range_more f (start + 1) n) ∙ sym (append_assoc (f start) (flat_map f (range_with_len (start + 1) n)) (f ((start + 1) + n)))
    ∙ ap (λ k. (f start ++ flat_map f (range_with_len (start + 1) n)) ++ f k) same

pub slot_put : (f : ℕ → Lines) (slot : ℕ) (text mid told : List ℕ) → mid ≡ text ++ concat (flat_map f (range_with_len 0 slot)) → told ≡ mid ++ concat (f slot)
    → told ≡ text ++ concat (flat_map f (range_with_len 0 (slot + 1)))
slot_put f slot text mid told first is = grind (arith, more_put, flat_map, range_with_len, concat, range_more)

pub view_put : (f : ℕ → List ℕ) (slot : ℕ) (text mid told : List ℕ) → mid ≡ text ++ concat (map f (range_with_len 0 slot)) → told ≡ mid ++ f slot
    → told ≡ text ++ concat (map f (range_with_len 0 (slot + 1)))
view_put f slot text mid told first is =
    let here : 0 + slot ≡ slot = omega arith in
    more_put text mid told (map f (range_with_len 0 slot)) (f slot ∷ []) first (one_put mid told (f slot) is)
    ∙ ap (λ (ls : Lines). text ++ concat ls) (sym (map-range_with_len_more f 0 slot slot here))
