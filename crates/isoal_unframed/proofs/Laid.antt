-- The unit of a slot whose kept PDUs are the laid ones.
use Rattle.isoal_unframed.proofs.Prelude.{ℕ, zero, suc, ◌≡◌, ◌+◌, ◌-◌, ◌*◌, ◌<◌, ◌≤◌, true, cond, ltb, leb, eqb, min, max, List, [], ◌∷◌, ◌++◌, length, take, drop, Option, Some, None, refl, sym, ap, ◌∙◌, subst, inl, inr, arith, div_ceil, slice_get, add-div_left, add-mod_left, mod-eq_of_lt, div-eq_of_lt, mod_self, div_self, add-mul, mul-le, div_ceil_times, cond-true, cond-false, lt-ltb, le-ltb, le-leb, eq-eqb, ne_eqb, cases_lt, cases_order, drop-drop, length-drop, append_assoc, take-append-drop, none-some, same_Some, cond_some, Content, fragment, end, fragments_of, laid_unit, laid, unit_after}

ceil_small : (x m : ℕ) → 0 < x → x ≤ m → div_ceil x m ≡ 1
ceil_small x m some fits = grind (arith, cases_lt, div-eq_of_lt, mod-eq_of_lt, min, div_ceil, div_self, mod_self)

ceil_more : (x m : ℕ) → 0 < m → div_ceil (m + x) m ≡ div_ceil x m + 1
ceil_more x m some = grind (arith, min, add-div_left, add-mod_left)

ceil_some : (x m : ℕ) → 0 < x → 0 < m → 1 ≤ div_ceil x m
ceil_some x m some positive = grind (arith, cases_lt, ceil_small, div_ceil, ceil_more)

pub one_fragment : (m : ℕ) (unit : List ℕ) → 0 < m → length unit ≤ m → fragments_of m unit ≡ 1
one_fragment m unit positive fits = grind (arith, cases_order, length, div-eq_of_lt, mod-eq_of_lt, max, div_ceil, min, ceil_small)

pub more_fragments : (m : ℕ) (unit : List ℕ) → 0 < m → m < length unit → fragments_of m unit ≡ fragments_of m (drop m unit) + 1
more_fragments m unit positive past = grind (arith, length, drop, length-drop, div_ceil, ceil_some, max, ceil_more)

-- a laid PDU by its place
pub laid_full : (m : ℕ) (unit : List ℕ) (r : ℕ) → r + 1 < fragments_of m unit → laid_unit m unit r ≡ fragment (take m (drop (r * m) unit))
laid_full m unit r below = grind (arith, cond-true, ltb, fragments_of, fragment, take, drop, cond, eqb, end, lt-ltb)

pub laid_end : (m : ℕ) (unit : List ℕ) (r : ℕ) → r + 1 ≡ fragments_of m unit → laid_unit m unit r ≡ end (drop (r * m) unit)
laid_end m unit r is = grind (arith, cond-false, ltb, fragments_of, fragment, take, drop, cond, eqb, end, le-ltb, cond-true, eq-eqb)

-- behind the first place lies what is left of the unit
pub laid_next : (m : ℕ) (unit : List ℕ) (r : ℕ) → 0 < m → m < length unit → laid_unit m unit (r + 1) ≡ laid_unit m (drop m unit) r
laid_next m unit r positive past =
    grind (
      arith,
      fragments_of,
      drop,
      more_fragments,
      drop-drop,
      cases_order,
      laid_end,
      end,
      laid_full,
      fragment,
      take,
      cond-false,
      ltb,
      cond,
      eqb,
      le-ltb,
      ne_eqb,
    )

-- the slot keeps no PDU but the laid ones
abbrev pub Agrees : ℕ → Option (List ℕ) → List (Option Content) → Type 0
Agrees m unit slot = (r : ℕ) → (content : Content) → slice_get slot r ≡ Some (Some content) → content ≡ laid m unit r

-- the slot keeps all that carry the unit
abbrev pub Carries : ℕ → List ℕ → List (Option Content) → Type 0
Carries m unit slot = (r : ℕ) → r < fragments_of m unit → (content : Content) × (slice_get slot r ≡ Some (Some content))

-- padding has no unit
pub padding_none : (m most : ℕ) (prefix : List ℕ) (slot : List (Option Content)) → Agrees m None slot → unit_after most prefix slot ≡ None
padding_none m most prefix (Some content ∷ slot) agrees = grind (arith, agrees 0 content refl, padding_none m most (prefix ++ []) slot (λ r other is. agrees (suc r) other is))
padding_none m most prefix slot agrees = search unit_after

-- where the slot keeps all that carry the unit, it has the unit
pub carried_unit : (m most : ℕ) (prefix unit : List ℕ) (slot : List (Option Content)) → 0 < m → length (prefix ++ unit) ≤ most
    → Agrees m (Some unit) slot → Carries m unit slot → unit_after most prefix slot ≡ Some (prefix ++ unit)
carried_unit m most prefix unit [] positive fits agrees carries =
    absurd (none-some (Some (carries 0 (omega arith)).0) (carries 0 (omega arith)).1)
carried_unit m most prefix unit (None ∷ slot) positive fits agrees carries =
    absurd (none-some (carries 0 (omega arith)).0 (same_Some None (Some (carries 0 (omega arith)).0) (carries 0 (omega arith)).1))
carried_unit m most prefix unit (Some content ∷ slot) positive fits agrees carries =
    let start : 0 * m ≡ 0 = omega arith in
    let here : content ≡ laid_unit m unit 0 = agrees 0 content refl in
    elim (cases_lt m (length unit)) [
      | inl past ↦
          let count : fragments_of m unit ≡ fragments_of m (drop m unit) + 1 = more_fragments m unit positive past in
          let full : content ≡ fragment (take m unit) = here ∙ laid_full m unit 0 (omega arith) ∙ ap (λ k. fragment (take m (drop k unit))) start in
          let whole : (prefix ++ take m unit) ++ drop m unit ≡ prefix ++ unit =
          append_assoc prefix (take m unit) (drop m unit) ∙ ap (λ xs. prefix ++ xs) (take-append-drop m unit) in
          ap (λ c. unit_after most prefix (Some c ∷ slot)) full
          ∙ carried_unit m most (prefix ++ take m unit) (drop m unit) slot positive (subst (λ xs. length xs ≤ most) (sym whole) fits)
          (λ r other is. agrees (suc r) other is ∙ ap (laid_unit m unit) (omega arith) ∙ laid_next m unit r positive past)
          (λ r below. carries (suc r) (omega arith)) ∙ ap Some whole
      | inr small ↦ grind (arith, fragments_of, one_fragment, end, laid_end, drop, unit_after, cond-true, leb, length, le-leb)
    ]

carries_more : (content : Content) (slot : List (Option Content)) (n count : ℕ) → count ≡ n + 1
    → ((r : ℕ) → r < n → (other : Content) × (slice_get slot r ≡ Some (Some other)))
    → (r : ℕ) → r < count → (other : Content) × (slice_get (Some content ∷ slot) r ≡ Some (Some other))
carries_more content slot n count is rest zero below = (content, refl)
carries_more content slot n count is rest (suc r) below = rest r (omega arith)

carries_one : (content : Content) (slot : List (Option Content)) (count : ℕ) → count ≡ 1
    → (r : ℕ) → r < count → (other : Content) × (slice_get (Some content ∷ slot) r ≡ Some (Some other))
carries_one content slot count is zero below = (content, refl)
carries_one content slot count is (suc r) below = absurd (omega arith)

-- a unit that a slot has is the laid one, and the slot keeps all that carry it
pub unit_carried : (m most : ℕ) (prefix unit : List ℕ) (slot : List (Option Content)) (octets : List ℕ) → 0 < m
    → Agrees m (Some unit) slot → unit_after most prefix slot ≡ Some octets → Carries m unit slot × (octets ≡ prefix ++ unit)
unit_carried m most prefix unit [] octets positive agrees is = absurd (none-some octets is)
unit_carried m most prefix unit (None ∷ slot) octets positive agrees is = absurd (none-some octets is)
unit_carried m most prefix unit (Some content ∷ slot) octets positive agrees is =
    let start : 0 * m ≡ 0 = omega arith in
    let here : content ≡ laid_unit m unit 0 = agrees 0 content refl in
    elim (cases_lt m (length unit)) [
      | inl past ↦
          let count : fragments_of m unit ≡ fragments_of m (drop m unit) + 1 = more_fragments m unit positive past in
          let full : content ≡ fragment (take m unit) = here ∙ laid_full m unit 0 (omega arith) ∙ ap (λ k. fragment (take m (drop k unit))) start in
          let whole : (prefix ++ take m unit) ++ drop m unit ≡ prefix ++ unit =
          append_assoc prefix (take m unit) (drop m unit) ∙ ap (λ xs. prefix ++ xs) (take-append-drop m unit) in
          let rest : Carries m (drop m unit) slot × (octets ≡ (prefix ++ take m unit) ++ drop m unit) =
          unit_carried m most (prefix ++ take m unit) (drop m unit) slot octets positive
          (λ r other at. agrees (suc r) other at ∙ ap (laid_unit m unit) (omega arith) ∙ laid_next m unit r positive past)
          (sym (ap (λ c. unit_after most prefix (Some c ∷ slot)) full) ∙ is) in
          (carries_more content slot (fragments_of m (drop m unit)) (fragments_of m unit) count rest.0, rest.1 ∙ whole)
      | inr small ↦
          let one : fragments_of m unit ≡ 1 = one_fragment m unit positive small in
          let last : content ≡ end unit = here ∙ laid_end m unit 0 (omega arith) ∙ ap (λ k. end (drop k unit)) start in
          let both : (leb (length (prefix ++ unit)) most ≡ true) × (prefix ++ unit ≡ octets) =
          cond_some (leb (length (prefix ++ unit)) most) (prefix ++ unit) octets (sym (ap (λ c. unit_after most prefix (Some c ∷ slot)) last) ∙ is) in
          (carries_one content slot (fragments_of m unit) one, sym both.1)
    ]

-- a unit of at most Max_SDU octets fits its slot
pub fragments_fit : (m most : ℕ) (unit : List ℕ) → 0 < m → 0 < most → length unit ≤ most → fragments_of m unit ≤ div_ceil most m
fragments_fit m most unit positive some fits = grind (arith, div_ceil, ceil_some, cases_lt, length, div_ceil_times, mul-le, add-mul)
