-- What is read is encoded so, and what is encoded so is read: runs, records and values.
use Rattle.pacs_records.proofs.Prelude.{◌≡◌, ℕ, zero, suc, ◌+◌, ◌*◌, ◌<◌, ◌≤◌, Bool, true, false, cond, eqb, ltb, List, [], ◌∷◌, ◌++◌, length, Option, Some, None, Result, Ok, Err, refl, sym, ap, subst, ◌∙◌, append_assoc, arith, flat_map, AllByRecursion, IfOk, bytes_eq-Decides, eqb-true, ltb-false, le-ltb, append-nil, nil_from_length, length-append, flat_map-cons, IsOctets, octet, counted, octet_in, octets_in, place_in, Takes, octet_takes, octets_take, octets_again, IsOctets-prefix, Takes-then, ok_is, bind_ok, needed_ok, LtvBad, AreLtvs, bad_of, PacFault, TooLong, Short, Trailing, PacRecord, lc3, is_lc3, greatest_value, encoded, value, Fits, AreRecords, PacIs, ◌>>=◌, Answers, field_at, codec_in, told, checked, reads, are_read}
use Rattle.pacs_records.specs.Reading.{run_in, record_in, records_in, value_in}

-- ---- steps of reading

pub field_ok : {A : Type 0} (place : ℕ) (field : Option A) (x : A) → field_at place field ≡ Ok x → field ≡ Some x
field_ok place field x e = needed_ok (Short place) field x e

checked_ok : (place : ℕ) (listed : Bool) (bad : Option LtvBad) (run x : List ℕ × List ℕ) → checked place listed bad run ≡ Ok x → (run ≡ x) × (listed ≡ true → bad ≡ None)
checked_ok place listed bad run x e = grind (arith, ok_is)

pub is_lc3-true : (codec : List ℕ) → is_lc3 codec ≡ true → codec ≡ lc3
is_lc3-true codec = (bytes_eq-Decides codec lc3).0

pub lc3-is : (codec : List ℕ) → codec ≡ lc3 → is_lc3 codec ≡ true
lc3-is codec = (bytes_eq-Decides codec lc3).1

-- ---- a run

pub run_takes : (listed : Bool) (whole from : List ℕ) (x : List ℕ × List ℕ) → IsOctets from → run_in listed whole from ≡ Ok x
    → Takes from (counted x.0) x.1 × (length x.0 < 256) × (listed ≡ true → AreLtvs x.0)
unfolding run_in
run_takes listed whole from x fits e =
    let a = bind_ok (field_at (place_in whole from) (octet_in from)) _ x e in
    let b = bind_ok (field_at (place_in whole a.0.1) (octets_in a.0.0 a.0.1)) _ x a.2 in
    let t0 = octet_takes from a.0.0 a.0.1 (field_ok (place_in whole from) (octet_in from) a.0 a.1) in
    let t1 = octets_take a.0.0 a.0.1 b.0.0 b.0.1 (field_ok (place_in whole a.0.1) (octets_in a.0.0 a.0.1) b.0 b.1) in
    let g = checked_ok (place_in whole a.0.1) listed (bad_of b.0.0) b.0 x b.2 in
    let all : Takes from (a.0.0 ∷ b.0.0) b.0.1 = Takes-then from (octet a.0.0) a.0.1 b.0.0 b.0.1 t0 t1.0 in
    let small : a.0.0 < 256 = subst IsOctets t0.parts fits 0 in
    let run : Takes from (counted b.0.0) b.0.1 = rw t1.1 all in
    let run_fits : IsOctets b.0.0 = IsOctets-prefix b.0.0 b.0.1 (subst IsOctets t1.0.parts (t0.fits fits)) in
    subst (λ (y : List ℕ × List ℕ). Takes from (counted y.0) y.1 × (length y.0 < 256) × (listed ≡ true → AreLtvs y.0)) g.0
    (run, omega (arith, t1.1, small), λ h. are_read b.0.0 run_fits (g.1 h))

pub run_again : (listed : Bool) (whole run rest : List ℕ) → (listed ≡ true → AreLtvs run) → run_in listed whole (counted run ++ rest) ≡ Ok (run, rest)
unfolding run_in
run_again listed whole run rest h = grind (arith, octets_again, checked, place_in, bad_of, reads)

-- ---- a record

pub record_takes : (whole from : List ℕ) (x : PacRecord × List ℕ) → IsOctets from → record_in whole from ≡ Ok x → Takes from (encoded x.0) x.1 × Fits x.0
unfolding record_in
record_takes whole from x fits e =
    let a = bind_ok (codec_in whole from) _ x e in
    let b = bind_ok (run_in (is_lc3 a.0.0) whole a.0.1) _ x a.2 in
    let c = bind_ok (run_in true whole b.0.1) _ x b.2 in
    let t0 = octets_take 5 from a.0.0 a.0.1 (field_ok (place_in whole from) (octets_in 5 from) a.0 a.1) in
    let t1 = run_takes (is_lc3 a.0.0) whole a.0.1 b.0 (t0.0.fits fits) b.1 in
    let t2 = run_takes true whole b.0.1 c.0 (t1.0.fits (t0.0.fits fits)) c.1 in
    let e01 = Takes-then from a.0.0 a.0.1 (counted b.0.0) b.0.1 t0.0 t1.0 in
    let e02 = Takes-then from (a.0.0 ++ counted b.0.0) b.0.1 (counted c.0.0) c.0.1 e01 t2.0 in
    let made : PacRecord × List ℕ = (record { codec = a.0.0; caps = b.0.0; metadata = c.0.0 }, c.0.1) in
    subst (λ (y : PacRecord × List ℕ). Takes from (encoded y.0) y.1 × Fits y.0) (ok_is made x c.2)
    (e02, record { codec = t0.1; caps_count = t1.1; metadata_count = t2.1; caps = λ same. t1.2 (lc3-is a.0.0 same); metadata = t2.2 refl })

pub record_again : (whole : List ℕ) (entry : PacRecord) (rest : List ℕ) → Fits entry → record_in whole (encoded entry ++ rest) ≡ Ok (entry, rest)
unfolding record_in
record_again whole entry rest fits =
    let regrouped : encoded entry ++ rest ≡ entry.codec ++ (counted entry.caps ++ (counted entry.metadata ++ rest)) =
    append_assoc (entry.codec ++ counted entry.caps) (counted entry.metadata) rest ∙ append_assoc entry.codec (counted entry.caps) (counted entry.metadata ++ rest) in
    let codec : octets_in 5 (entry.codec ++ (counted entry.caps ++ (counted entry.metadata ++ rest))) ≡ Some (entry.codec, counted entry.caps ++ (counted entry.metadata ++ rest)) = grind (arith, fits.codec, octets_again entry.codec (counted entry.caps ++ (counted entry.metadata ++ rest))) in
    let caps = run_again (is_lc3 entry.codec) whole entry.caps (counted entry.metadata ++ rest) (λ h. fits.caps (is_lc3-true entry.codec h)) in
    let metadata = run_again true whole entry.metadata rest (λ _. fits.metadata) in
    ap (record_in whole) regrouped ∙ rw (codec, caps, metadata) refl

-- ---- records

pub records_take : (whole : List ℕ) (count : ℕ) (from : List ℕ) (x : List PacRecord × List ℕ) → IsOctets from → records_in whole count from ≡ Ok x
    → Takes from (flat_map encoded x.0) x.1 × (length x.0 ≡ count) × AllByRecursion Fits x.0
unfolding records_in
records_take whole zero from x fits e = grind (arith, flat_map, encoded, length, ok_is)
records_take whole (suc count) from x fits e =
    let a = bind_ok (record_in whole from) _ x e in
    let b = bind_ok (records_in whole count a.0.1) _ x a.2 in
    let first = record_takes whole from a.0 fits a.1 in
    let second = records_take whole count a.0.1 b.0 (first.0.fits fits) b.1 in
    let both = Takes-then from (encoded a.0.0) a.0.1 (flat_map encoded b.0.0) b.0.1 first.0 second.0 in
    let made : List PacRecord × List ℕ = (a.0.0 ∷ b.0.0, b.0.1) in
    subst (λ (y : List PacRecord × List ℕ). Takes from (flat_map encoded y.0) y.1 × (length y.0 ≡ suc count) × AllByRecursion Fits y.0) (ok_is made x b.2)
    (rw flat_map-cons both, ap suc second.1, (first.1, second.2))

pub records_again : (whole : List ℕ) (records : List PacRecord) (rest : List ℕ) → AllByRecursion Fits records
    → records_in whole (length records) (flat_map encoded records ++ rest) ≡ Ok (records, rest)
unfolding records_in
records_again whole [] rest fits = refl
records_again whole (entry ∷ records) rest fits =
    let regrouped : flat_map encoded (entry ∷ records) ++ rest ≡ encoded entry ++ (flat_map encoded records ++ rest) = grind (arith, flat_map-cons, encoded, append_assoc, flat_map) in
    ap (records_in whole (suc (length records))) regrouped ∙ rw (record_again whole entry (flat_map encoded records ++ rest) fits.0, records_again whole records rest fits.1) refl

-- ---- the whole value

guard_ok : {A : Type 0} (b : Bool) (fault : PacFault) (read : Result A PacFault) (y : A) → cond b (Err fault) read ≡ Ok y → (b ≡ false) × (read ≡ Ok y)
guard_ok b fault read y e = grind arith

guard_ended : {A : Type 0} (b : Bool) (fault : PacFault) (x y : A) → cond b (Ok x) (Err fault) ≡ Ok y → (b ≡ true) × (x ≡ y)
guard_ended b fault x y e = grind arith

pub value_takes : (octets : List ℕ) (records : List PacRecord) → IsOctets octets → value_in octets ≡ Ok records → PacIs records octets
unfolding value_in
value_takes octets records fits e =
    let s = guard_ok (ltb greatest_value (length octets)) TooLong _ records e in
    let a = bind_ok (field_at 0 (octet_in octets)) _ records s.1 in
    let b = bind_ok (records_in octets a.0.0 a.0.1) _ records a.2 in
    let g = guard_ended (eqb (length b.0.1) 0) (Trailing (place_in octets b.0.1)) b.0.0 records b.2 in
    let t0 = octet_takes octets a.0.0 a.0.1 (field_ok 0 (octet_in octets) a.0 a.1) in
    let t1 = records_take octets a.0.0 a.0.1 b.0 (t0.fits fits) b.1 in
    let nothing : b.0.1 ≡ [] = nil_from_length b.0.1 (eqb-true _ _ g.0) in
    let both : octets ≡ (a.0.0 ∷ flat_map encoded b.0.0) ++ b.0.1 = (Takes-then octets (octet a.0.0) a.0.1 (flat_map encoded b.0.0) b.0.1 t0 t1.0).parts in
    let is : octets ≡ value b.0.0 =
    both ∙ ap (λ (r : List ℕ). (a.0.0 ∷ flat_map encoded b.0.0) ++ r) nothing ∙ append-nil (a.0.0 ∷ flat_map encoded b.0.0) ∙ ap (λ (k : ℕ). k ∷ flat_map encoded b.0.0) (sym t1.1) in
    let small : length octets ≤ greatest_value = ltb-false _ _ s.0 in
    subst (λ (v : List PacRecord). PacIs v octets) g.1 (record { are = record { fit = t1.2; size = subst (λ (os : List ℕ). length os ≤ greatest_value) is small }; is = is })

value_read : (records : List PacRecord) → AreRecords records → value_in (value records) ≡ Ok records
unfolding value_in
value_read records are =
    grind (arith, le-ltb _ _ are.size, append-nil (flat_map encoded records), records_again (value records) records [] are.fit)

pub value_again : (octets : List ℕ) (records : List PacRecord) → PacIs records octets → value_in octets ≡ Ok records
value_again octets records p = ap value_in p.is ∙ value_read records p.are

-- each record has at least 7 octets
pub longer : (records : List PacRecord) → AllByRecursion Fits records → 7 * length records ≤ length (flat_map encoded records)
longer [] fit = omega arith
longer (entry ∷ records) fit =
    let long : length (flat_map encoded (entry ∷ records)) ≡ length (encoded entry) + length (flat_map encoded records) = grind (arith, length, flat_map-cons, encoded, length-append, flat_map) in
    let one = length-append (entry.codec ++ counted entry.caps) (counted entry.metadata) in
    let two = length-append entry.codec (counted entry.caps) in
    omega (arith, long, one, two, fit.0.codec, longer records fit.1)

pub few : (records : List PacRecord) → AreRecords records → length records < 256
few records are = omega (arith, longer records are.fit, are.size)

-- ---- what the calls promise

pub is_value : (octets : List ℕ) (result : Result (List PacRecord) PacFault) → IsOctets octets → Answers told result (value_in octets) → IfOk result (λ records. PacIs records octets)
is_value octets result fits given = grind (arith, value_takes)

pub only_value : (octets : List ℕ) (result : Result (List PacRecord) PacFault) (records : List PacRecord) → Answers told result (value_in octets) → PacIs records octets → Answers told result (Ok records)
only_value octets result records given p = subst (Answers told result) (value_again octets records p) given
