-- The records one after the other, up to the first that fits.
use Rattle.pacs_records.proofs.Prelude.{◌≡◌, ◌↔◌, ◌⊎◌, Bool, true, List, [], ◌∷◌, ◌++◌, Option, Some, None, Result, refl, sym, ap, ◌∙◌, inl, inr, option_and_then, Any, OnOk, IfErr, is_none, result_err, list_any, same_Some, Effective, Capability, NotTaken, Codec, PacRecord, FitsStream, IsReason, IsToldReason, reason_of, last_reason, not_taken, arith}
use Rattle.std.proofs.lemmas.List.Folds.{Any-from_list_any, list_any-from_Any}
use Rattle.pacs_records.specs.Match.{Takes}
use Rattle.pacs_records.proofs.FirstReasons.{none_is_fit, fit_is_none, some_is_reason, reason_is_some}

-- ---- the loop

-- ---- what it means

-- whether a record fits, as a test
abbrev fits_test : Capability → Effective → PacRecord → Bool
fits_test capability effective entry = is_none (reason_of entry capability effective)

none_is : (found : Option NotTaken) → is_none found ≡ true → found ≡ None
none_is found e = grind arith

any_fits : (capability : Capability) (effective : Effective) (entries : List PacRecord) → list_any (fits_test capability effective) entries ≡ true
    → Any (λ entry. FitsStream entry capability effective) entries
any_fits capability effective entries h =
    let (k, entry, lt, at, fits) = Any-from_list_any (fits_test capability effective) entries h in
    (k, entry, lt, at, none_is_fit entry capability effective (none_is (reason_of entry capability effective) fits))

fits_any : (capability : Capability) (effective : Effective) (entries : List PacRecord) → Any (λ entry. FitsStream entry capability effective) entries
    → list_any (fits_test capability effective) entries ≡ true
fits_any capability effective entries (k, entry, lt, at, fits) = grind (arith, list_any-from_Any, is_none, fit_is_none)

-- none is told exactly where the test finds a record
told_none : (told : NotTaken) (capability : Capability) (effective : Effective) (entries : List PacRecord) → last_reason told entries capability effective ≡ None
    → list_any (fits_test capability effective) entries ≡ true
told_none told capability effective [] e = absurd cc
told_none told capability effective (entry ∷ entries) e = by_reason (reason_of entry capability effective) refl e (λ reason rest. told_none reason capability effective entries rest)
  where
    by_reason : (found : Option NotTaken) → reason_of entry capability effective ≡ found → option_and_then (λ r. last_reason r entries capability effective) found ≡ None
        → ((reason : NotTaken) → last_reason reason entries capability effective ≡ None → list_any (fits_test capability effective) entries ≡ true)
        → list_any (fits_test capability effective) (entry ∷ entries) ≡ true
    by_reason None e rest others = rw e refl
    by_reason (Some reason) e rest others = rw e (others reason rest)

none_told : (told : NotTaken) (capability : Capability) (effective : Effective) (entries : List PacRecord) → list_any (fits_test capability effective) entries ≡ true
    → last_reason told entries capability effective ≡ None
none_told told capability effective [] e = absurd cc
none_told told capability effective (entry ∷ entries) e = by_reason (reason_of entry capability effective) refl (λ reason rest. none_told reason capability effective entries rest)
  where
    by_reason : (found : Option NotTaken) → reason_of entry capability effective ≡ found
        → ((reason : NotTaken) → list_any (fits_test capability effective) entries ≡ true → last_reason reason entries capability effective ≡ None)
        → option_and_then (λ r. last_reason r entries capability effective) found ≡ None
    by_reason None f others = refl
    by_reason (Some reason) f others = others reason (rw f at e)

pub not_taken-none : (capability : Capability) (effective : Effective) → (not_taken capability effective ≡ None) ↔ Takes capability effective
not_taken-none capability effective = grind (arith, any_fits, told_none, none_told, fits_any)

-- the reason told before where there is no record, or that of the last
abbrev Told : NotTaken → NotTaken → List PacRecord → Capability → Effective → Type 0
Told before told entries capability effective =
    ((entries ≡ []) × (told ≡ before)) ⊎ ((prefix : List PacRecord) × (last : PacRecord) × (entries ≡ prefix ++ last ∷ []) × IsReason told last capability effective)

told_last : (before told : NotTaken) (capability : Capability) (effective : Effective) (entries : List PacRecord) → last_reason before entries capability effective ≡ Some told
    → Told before told entries capability effective
told_last before told capability effective [] e = inl (refl, sym (same_Some before told e))
told_last before told capability effective (entry ∷ entries) e = by_reason (reason_of entry capability effective) refl e (λ reason rest. told_last reason told capability effective entries rest)
  where
    by_rest : (reason : NotTaken) → reason_of entry capability effective ≡ Some reason → Told reason told entries capability effective → Told before told (entry ∷ entries) capability effective
    by_rest reason f (inl (none, same)) =
        inr ([], entry, ap (λ (es : List PacRecord). entry ∷ es) none, some_is_reason entry capability effective told (f ∙ ap (λ (r : NotTaken). Some r) (sym same)))
    by_rest reason f (inr (prefix, last, parts, is)) = inr (entry ∷ prefix, last, ap (λ (es : List PacRecord). entry ∷ es) parts, is)

    by_reason : (found : Option NotTaken) → reason_of entry capability effective ≡ found → option_and_then (λ r. last_reason r entries capability effective) found ≡ Some told
        → ((reason : NotTaken) → last_reason reason entries capability effective ≡ Some told → Told reason told entries capability effective) → Told before told (entry ∷ entries) capability effective
    by_reason None f rest others = absurd cc
    by_reason (Some reason) f rest others = by_rest reason f (others reason rest)

pub not_taken-some : (capability : Capability) (effective : Effective) (reason : NotTaken) → not_taken capability effective ≡ Some reason → IsToldReason reason capability effective
not_taken-some capability effective reason e = told_last Codec reason capability effective capability.entries e

pub taken_not_told : (capability : Capability) (effective : Effective) (reason : NotTaken) → not_taken capability effective ≡ Some reason → Takes capability effective → ⊥
taken_not_told capability effective reason e t = some_none (sym ((not_taken-none capability effective).1 t) ∙ e)
  where
    some_none : None ≡ Some reason → ⊥
    some_none h = cc

nothing : (prefix : List PacRecord) (last : PacRecord) → [] ≡ prefix ++ last ∷ [] → ⊥
nothing [] last e = cc
nothing (entry ∷ prefix) last e = cc

last_same : (prefix others : List PacRecord) (last end : PacRecord) → prefix ++ last ∷ [] ≡ others ++ end ∷ [] → last ≡ end
last_same [] [] last end e = cc
last_same [] (entry ∷ others) last end e = grind (arith, nothing)
last_same (entry ∷ prefix) [] last end e = grind (arith, nothing)
last_same (entry ∷ prefix) (first ∷ others) last end e = last_same prefix others last end cc

-- at most one reason is told
one_told : (a b : NotTaken) (capability : Capability) (effective : Effective) → IsToldReason a capability effective → IsToldReason b capability effective → a ≡ b
one_told a b capability effective x5 x6 = grind (arith, nothing, last_same, same_Some, reason_is_some)

pub some-not_taken : (capability : Capability) (effective : Effective) (reason : NotTaken) → (Takes capability effective → ⊥) → IsToldReason reason capability effective
    → not_taken capability effective ≡ Some reason
some-not_taken capability effective reason never told = by_found (not_taken capability effective) refl
  where
    by_found : (found : Option NotTaken) → not_taken capability effective ≡ found → found ≡ Some reason
    by_found None e = absurd (never ((not_taken-none capability effective).0 e))
    by_found (Some other) e = ap (λ (r : NotTaken). Some r) (one_told other reason capability effective (not_taken-some capability effective other e) told)

-- ---- what the call promises

pub is_taken : (result : Result (Unit {0}) NotTaken) (capability : Capability) (effective : Effective) → result_err result ≡ not_taken capability effective → OnOk result (Takes capability effective)
is_taken result capability effective e = grind (arith, not_taken-none)

pub is_refused : (result : Result (Unit {0}) NotTaken) (capability : Capability) (effective : Effective) → result_err result ≡ not_taken capability effective
    → IfErr result (λ reason. (¬ Takes capability effective) × IsToldReason reason capability effective)
is_refused result capability effective e = grind (arith, taken_not_told, not_taken-some)
