-- What holds for an index, as a loop over the subgroups finds it.
use Rattle.base_grammar.proofs.Prelude.{◌≡◌, ℕ, zero, suc, ◌+◌, ◌<◌, ◌==◌, ◌⊎◌, inl, inr, Bool, true, false, cond, eqb, List, [], ◌∷◌, ◌++◌, length, get_or, add-zero, ◌||◌, map, Option, Some, None, refl, sym, ap, subst, ◌∙◌, arith, slice_get, is_some, IfSome, find, AllByRecursion, eqb-true, eq-eqb, list_any-append, flat_map-cons, same_Some, BaseEntry, Subgroup, values_of, entry_of, or_behind, effective_from, effective_of, IsEffective, Endpoint, bis_of, indices, stands_in, AreNew, IsBase}
use Rattle.base_grammar.specs.declared.effective.Effective.{Effective}
use Rattle.base_grammar.proofs.Again.{AreNew-first, AreNew-second}
use Rattle.base_grammar.proofs.Indices.{in_entries, in_subgroups, in_entries-is, in_subgroups-is}

pub fits_at : {A : Type 0} (P : A → Type 0) (xs : List A) (i : ℕ) (x : A) → AllByRecursion P xs → i < length xs → x ≡ get_or xs i x → P x
fits_at P [] i x h lt e = absurd (omega arith)
fits_at P (first ∷ xs) zero x h lt e = subst P (sym e) h.0
fits_at P (first ∷ xs) (suc i) x h lt e = fits_at P xs i x h.1 (omega arith) e

find_one : {A : Type 0} (b : Bool) (x y : A) (others : Option A) → cond b (Some x) others ≡ Some y → ((b ≡ true) × (x ≡ y)) ⊎ (others ≡ Some y)
find_one b x y others e = grind (arith, same_Some)

pub found_fits : {A : Type 0} (P : A → Type 0) (test : A → Bool) (xs : List A) (x : A) → AllByRecursion P xs → find test xs ≡ Some x → P x
found_fits P test [] x h e = absurd cc
found_fits P test (first ∷ xs) x h e =
    elim (find_one (test first) first x (find test xs) e) [
      | inl (_, same) ↦ subst P same h.0
      | inr behind ↦ found_fits P test xs x h.1 behind
    ]

-- ---- what is found holds

found_entry : (bis : ℕ) (es : List BaseEntry) (e : BaseEntry) → entry_of bis es ≡ Some e → (k : ℕ) × (slice_get es k ≡ Some e) × (e.bis ≡ bis)
found_entry bis [] e h = absurd cc
found_entry bis (x ∷ es) e h =
    elim (find_one (eqb x.bis bis) x e (entry_of bis es) h) [
      | inl (t, same) ↦ (0, ap (λ (y : BaseEntry). Some y) same, subst (λ (y : BaseEntry). y.bis ≡ bis) same (eqb-true _ _ t))
      | inr behind ↦ let r = found_entry bis es e behind in (suc r.0, r.1, r.2)
    ]

record FoundAt (place bis : ℕ) (ss : List Subgroup) (e : Effective) : Type 0 where
  subgroup : Subgroup
  entry : BaseEntry
  at : ℕ
  k : ℕ
  there : e.subgroup ≡ place + at
  stands : slice_get ss at ≡ Some subgroup
  has : slice_get subgroup.entries k ≡ Some entry
  index : entry.bis ≡ bis
  values : e ≡ values_of e.subgroup subgroup entry

found_by : (place bis : ℕ) (s : Subgroup) (ss : List Subgroup) (o : Option BaseEntry) (e : Effective) → entry_of bis s.entries ≡ o → or_behind place s o (effective_from (place + 1) bis ss) ≡ Some e
    → (effective_from (place + 1) bis ss ≡ Some e → FoundAt (place + 1) bis ss e) → FoundAt place bis (s ∷ ss) e
found_by place bis s ss None e h r behind =
    let f = behind r in
    record { subgroup = f.subgroup; entry = f.entry; at = suc f.at; k = f.k; there = omega (arith, f.there); stands = f.stands; has = f.has; index = f.index; values = f.values }
found_by place bis s ss (Some x) e h r behind =
    let f = found_entry bis s.entries x h in
    let made : FoundAt place bis (s ∷ ss) (values_of place s x) =
    record { subgroup = s; entry = x; at = 0; k = f.0; there = sym (add-zero place); stands = refl; has = f.1; index = f.2; values = refl } in
    subst (FoundAt place bis (s ∷ ss)) (same_Some (values_of place s x) e r) made

found_from : (place bis : ℕ) (ss : List Subgroup) (e : Effective) → effective_from place bis ss ≡ Some e → FoundAt place bis ss e
found_from place bis [] e h = absurd cc
found_from place bis (s ∷ ss) e h = found_by place bis s ss (entry_of bis s.entries) e refl h (found_from (place + 1) bis ss e)

pub effective_found : (v : Endpoint) (bis : ℕ) (o : Option Effective) → o ≡ effective_of v bis → IfSome o (IsEffective v bis)
effective_found v bis None h = tt
effective_found v bis (Some e) h =
    let f = found_from 0 bis v.subgroups e (sym h) in
    let there : f.at ≡ e.subgroup = omega (arith, f.there) in
    record {
      subgroup = f.subgroup;
      entry = f.entry;
      place = f.k;
      stands = subst (λ (n : ℕ). slice_get v.subgroups n ≡ Some f.subgroup) there f.stands;
      has = f.has;
      index = f.index;
      values = f.values;
    }

-- ---- something is found where the index stands

some_or : (place : ℕ) (s : Subgroup) (o : Option BaseEntry) (behind : Option Effective) → is_some (or_behind place s o behind) ≡ (is_some o || is_some behind)
some_or place s o behind = grind arith

some_chosen : (b : Bool) (e : BaseEntry) (o : Option BaseEntry) → is_some (cond b (Some e) o) ≡ (b || is_some o)
some_chosen b e o = grind arith

some_entry : (bis : ℕ) (es : List BaseEntry) → is_some (entry_of bis es) ≡ in_entries bis es
some_entry bis [] = refl
some_entry bis (e ∷ es) = some_chosen (eqb e.bis bis) e (entry_of bis es) ∙ ap (λ (b : Bool). eqb e.bis bis || b) (some_entry bis es)

some_from : (place bis : ℕ) (ss : List Subgroup) → is_some (effective_from place bis ss) ≡ in_subgroups bis ss
some_from place bis [] = refl
some_from place bis (s ∷ ss) = grind (arith, some_or place s (entry_of bis s.entries) (effective_from (place + 1) bis ss), some_entry bis s.entries, some_from (place + 1) bis ss)

pub effective_present : (v : Endpoint) (bis : ℕ) → is_some (effective_of v bis) ≡ stands_in (indices v.subgroups) bis
effective_present v bis = some_from 0 bis v.subgroups ∙ in_subgroups-is bis v.subgroups

-- ---- nothing else holds

or_true : (a b : Bool) → b ≡ true → (a || b) ≡ true
or_true a b e = grind arith

or_false : (a b : Bool) → (a || b) ≡ false → a ≡ false
or_false a b e = grind arith

both_ways : (b : Bool) → b ≡ true → b ≡ false → ⊥
both_ways b t f = let e : true ≡ false = sym t ∙ f in cc

same_index : (n : ℕ) → eqb n n ≡ true
same_index n = eq-eqb n n refl

stands_here : (es : List BaseEntry) (k : ℕ) (e : BaseEntry) → slice_get es k ≡ Some e → stands_in (map bis_of es) e.bis ≡ true
stands_here [] k e h = absurd cc
stands_here (x ∷ es) zero e h = grind (arith, same_Some, eqb, stands_in, map, bis_of, same_index)
stands_here (x ∷ es) (suc k) e h = or_true (eqb x.bis e.bis) (stands_in (map bis_of es) e.bis) (stands_here es k e h)

stands_there : (ss : List Subgroup) (at : ℕ) (s : Subgroup) (k : ℕ) (e : BaseEntry) → slice_get ss at ≡ Some s → slice_get s.entries k ≡ Some e → stands_in (indices ss) e.bis ≡ true
stands_there [] at s k e h g = absurd cc
stands_there (x ∷ ss) zero s k e h g = grind (arith, same_Some, stands_in, map, bis_of, stands_here, flat_map-cons, list_any-append, indices)
stands_there (x ∷ ss) (suc at) s k e h g =
    ap (λ (bs : List ℕ). stands_in bs e.bis) (flat_map-cons (λ (y : Subgroup). map bis_of y.entries) x ss)
    ∙ list_any-append (λ b. b == e.bis) (map bis_of x.entries) (indices ss) ∙ or_true (stands_in (map bis_of x.entries) e.bis) (stands_in (indices ss) e.bis) (stands_there ss at s k e h g)

first_or_later : (a b : Bool) → (a || b) ≡ true → (a ≡ true) ⊎ (b ≡ true)
first_or_later a b e = grind arith

-- an index that stands among new ones does not stand before
not_before : (before is : List ℕ) (b : ℕ) → AreNew before is → stands_in is b ≡ true → stands_in before b ≡ false
not_before before [] b h e = absurd cc
not_before before (i ∷ is) b h e =
    elim (first_or_later (eqb i b) (stands_in is b) e) [
      | inl t ↦ subst (λ (n : ℕ). stands_in before n ≡ false) (eqb-true i b t) h.0
      | inr later ↦ or_false (stands_in before b) (stands_in (i ∷ []) b) (sym (list_any-append (λ x. x == b) before (i ∷ [])) ∙ not_before (before ++ i ∷ []) is b h.1 later)
    ]

no_twice : (before xs ys : List ℕ) (b : ℕ) → AreNew before (xs ++ ys) → stands_in xs b ≡ true → stands_in ys b ≡ true → ⊥
no_twice before xs ys b h x y =
    let none : (stands_in before b || stands_in xs b) ≡ false = sym (list_any-append (λ z. z == b) before xs) ∙ not_before (before ++ xs) ys b (AreNew-second before xs ys h) y in
    both_ways (stands_in before b || stands_in xs b) (or_true (stands_in before b) (stands_in xs b) x) none

found_test : (b : Bool) (x y : BaseEntry) (o : Option BaseEntry) → (b ≡ true → ⊥) → o ≡ Some y → cond b (Some x) o ≡ Some y
found_test b x y o h e = grind arith

only_entry : (before : List ℕ) (es : List BaseEntry) (k : ℕ) (e : BaseEntry) → AreNew before (map bis_of es) → slice_get es k ≡ Some e → entry_of e.bis es ≡ Some e
only_entry before [] k e h g = absurd cc
only_entry before (x ∷ es) zero e h g = grind (arith, same_Some, entry_of, cond, same_index)
only_entry before (x ∷ es) (suc k) e h g =
    found_test (eqb x.bis e.bis) x e (entry_of e.bis es)
    (λ t. no_twice before (x.bis ∷ []) (map bis_of es) e.bis h (ap (λ (b : Bool). b || false) t) (stands_here es k e g))
    (only_entry (before ++ x.bis ∷ []) es k e h.1 g)

behind_none : (place : ℕ) (s : Subgroup) (o : Option BaseEntry) (behind : Option Effective) → (is_some o ≡ true → ⊥) → or_behind place s o behind ≡ behind
behind_none place s o behind h = grind arith

only_from : (before : List ℕ) (place : ℕ) (ss : List Subgroup) (at : ℕ) (s : Subgroup) (k : ℕ) (e : BaseEntry) → AreNew before (indices ss) → slice_get ss at ≡ Some s → slice_get s.entries k ≡ Some e
    → effective_from place e.bis ss ≡ Some (values_of (place + at) s e)
only_from before place [] at s k e h g m = absurd cc
only_from before place (x ∷ ss) zero s k e h g m =
    let all : AreNew before (map bis_of x.entries ++ indices ss) = subst (AreNew before) (flat_map-cons (λ (y : Subgroup). map bis_of y.entries) x ss) h in
    let same : s ≡ x = sym (same_Some x s g) in
    let here : slice_get x.entries k ≡ Some e = subst (λ (y : Subgroup). slice_get y.entries k ≡ Some e) same m in
    ap (λ (o : Option BaseEntry). or_behind place x o (effective_from (place + 1) e.bis ss)) (only_entry before x.entries k e (AreNew-first before (map bis_of x.entries) (indices ss) all) here)
    ∙ ap (λ (y : Subgroup). Some (values_of place y e)) (sym same) ∙ ap (λ (n : ℕ). Some (values_of n s e)) (sym (add-zero place))
only_from before place (x ∷ ss) (suc at) s k e h g m =
    let all : AreNew before (map bis_of x.entries ++ indices ss) = subst (AreNew before) (flat_map-cons (λ (y : Subgroup). map bis_of y.entries) x ss) h in
    let later : stands_in (indices ss) e.bis ≡ true = stands_there ss at s k e g m in
    let there : place + 1 + at ≡ place + suc at = omega arith in
    behind_none place x (entry_of e.bis x.entries) (effective_from (place + 1) e.bis ss)
    (λ t. no_twice before (map bis_of x.entries) (indices ss) e.bis all (sym (in_entries-is e.bis x.entries) ∙ sym (some_entry e.bis x.entries) ∙ t) later)
    ∙ only_from (before ++ map bis_of x.entries) (place + 1) ss at s k e (AreNew-second before (map bis_of x.entries) (indices ss) all) g m
    ∙ ap (λ (n : ℕ). Some (values_of n s e)) there

pub effective_only : (v : Endpoint) (bis : ℕ) (values : Effective) → IsBase v → IsEffective v bis values → effective_of v bis ≡ Some values
effective_only v bis values b e = grind (arith, effective_of, values_of, only_from)
