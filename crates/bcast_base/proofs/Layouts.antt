-- The first field with a reserved value, as a place that is counted and as one that is told.
use Rattle.bcast_base.proofs.Prelude.{◌≡◌, ℕ, ◌+◌, Bool, true, false, cond, List, [], ◌∷◌, ◌++◌, length, Option, Some, None, refl, sym, ap, ◌∙◌, arith, add-zero, zero-add, length-append, Field, laid, NoneReserved, FirstReserved, reserved_from}

-- the same, where the fields begin at a place
abbrev FirstFrom : ℕ → ℕ → List Field → Type 0
FirstFrom start place fields =
    (prefix : List Field) × (field : Field) × (back : List Field) × (fields ≡ prefix ++ field ∷ back) × NoneReserved prefix × (field.reserved ≡ true) × (place ≡ start + length (laid prefix))

step_first : (start place : ℕ) (field : Field) (fields : List Field) (next : Option ℕ) (b : Bool) → field.reserved ≡ b → cond b (Some start) next ≡ Some place
    → (next ≡ Some place → FirstFrom (start + length field.octets) place fields) → FirstFrom start place (field ∷ fields)
step_first start place field fields next true t e rest =
    let here : start ≡ place = cc in
    ([], field, fields, refl, tt, t, sym here ∙ sym (add-zero start))
step_first start place field fields next false t e rest =
    let r = rest e in
    let there : place ≡ start + length (laid (field ∷ r.0)) = omega (arith, r.6, length-append field.octets (laid r.0)) in
    (field ∷ r.0, r.1, r.2, ap (λ (x : List Field). field ∷ x) r.3, (t, r.4), r.5, there)

first_from : (start place : ℕ) (fields : List Field) → reserved_from start fields ≡ Some place → FirstFrom start place fields
first_from start place [] e = absurd cc
first_from start place (field ∷ fields) e =
    step_first start place field fields (reserved_from (start + length field.octets) fields) field.reserved refl e
    (first_from (start + length field.octets) place fields)

step_none : (b : Bool) (start : ℕ) (next : Option ℕ) → cond b (Some start) next ≡ None → (b ≡ false) × (next ≡ None)
step_none b start next e = grind arith

none_from : (start : ℕ) (fields : List Field) → reserved_from start fields ≡ None → NoneReserved fields
none_from start [] e = tt
none_from start (field ∷ fields) e =
    let s = step_none field.reserved start (reserved_from (start + length field.octets) fields) e in
    (s.0, none_from (start + length field.octets) fields s.1)

pub none_reserved : (start : ℕ) (fields : List Field) → NoneReserved fields → reserved_from start fields ≡ None
none_reserved start [] h = refl
none_reserved start (field ∷ fields) h = rw h.0 (none_reserved (start + length field.octets) fields h.1)

first_only : (start : ℕ) (prefix : List Field) (field : Field) (back : List Field) → NoneReserved prefix → field.reserved ≡ true
    → reserved_from start (prefix ++ field ∷ back) ≡ Some (start + length (laid prefix))
first_only start [] field back h t = rw t (ap (λ (n : ℕ). Some n) (sym (add-zero start)))
first_only start (first ∷ prefix) field back h t =
    let there : start + length first.octets + length (laid prefix) ≡ start + length (laid (first ∷ prefix)) = omega (arith, length-append first.octets (laid prefix)) in
    rw h.0 (first_only (start + length first.octets) prefix field back h.1 t ∙ ap (λ (n : ℕ). Some n) there)

pub reserved_first : (place : ℕ) (fields : List Field) → reserved_from 0 fields ≡ Some place → FirstReserved place fields
reserved_first place fields e = grind (arith, first_from, zero-add, length, laid)

pub first_reserved : (place : ℕ) (fields : List Field) → FirstReserved place fields → reserved_from 0 fields ≡ Some place
first_reserved place fields r = grind (arith, reserved_from, first_only, zero-add, length, laid)

pub reserved_none : (fields : List Field) → reserved_from 0 fields ≡ None → NoneReserved fields
reserved_none fields e = none_from 0 fields e
