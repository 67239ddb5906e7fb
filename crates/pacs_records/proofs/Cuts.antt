-- What stands at the cut is the fault that is met.
use Rattle.pacs_records.proofs.Prelude.{◌≡◌, ℕ, zero, suc, ◌<◌, ◌≤◌, ◌⊎◌, Bool, true, eqb, List, [], ◌∷◌, ◌++◌, length, Some, None, Result, Ok, Err, refl, sym, ap, subst, ◌∙◌, append_assoc, arith, inl, inr, flat_map, AllByRecursion, result_err, lt-ltb, le-ltb, ne_eqb, length-append, flat_map-cons, counted, octet_in, octets_in, place_in, octets_again, LtvBad, AreLtvs, bad_of, PacFault, TooLong, Short, Ltv, Trailing, Memory, PacRecord, Fields, to_codec, to_caps_length, to_caps, to_metadata_length, to_metadata, octets_of, next_length, MeetRows, IsNextList, Cut, IsShort, IsNoList, IsTrailing, IsFault, lc3, is_lc3, greatest_value, encoded, value, Fits, bad_read}
use Rattle.pacs_records.specs.Reading.{run_in, record_in, records_in, value_in}
use Rattle.pacs_records.proofs.Fields.{is_lc3-true, lc3-is, run_again, record_again, records_again}
use Rattle.pacs_records.proofs.Stops.{NoList, Stop}

-- ---- a run

few_octets : (k : ℕ) (from : List ℕ) → length from < k → octets_in k from ≡ None
few_octets k from lt = rw (lt-ltb (length from) k lt) refl

whole_octets : (k : ℕ) (from run behind : List ℕ) → length run ≡ k → from ≡ run ++ behind → octets_in k from ≡ Some (run, behind)
whole_octets k from run behind long parts = ap (λ (n : ℕ). octets_in n from) (sym long) ∙ ap (octets_in (length run)) parts ∙ octets_again run behind

no_run : (listed : Bool) (whole from : List ℕ) → length from < 1 → run_in listed whole from ≡ Err (Short (place_in whole from))
unfolding run_in
no_run listed whole from lt = grind arith

short_run : (listed : Bool) (whole : List ℕ) (count : ℕ) (rest : List ℕ) → length rest < count → run_in listed whole (count ∷ rest) ≡ Err (Short (place_in whole rest))
unfolding run_in
short_run listed whole count rest lt = rw (few_octets count rest lt) refl

bad_run : (whole : List ℕ) (count : ℕ) (rest : List ℕ) (fault : PacFault) → NoList whole count rest fault → run_in true whole (count ∷ rest) ≡ Err fault
unfolding run_in
bad_run whole count rest fault n = grind (arith, bad_of, result_err, bad_read, whole_octets)

-- ---- a record

codec_is : (codec rest : List ℕ) → length codec ≡ 5 → octets_in 5 (codec ++ rest) ≡ Some (codec, rest)
codec_is codec rest five = whole_octets 5 (codec ++ rest) codec rest five refl

-- behind the codec the capabilities fail
caps_fail : (whole codec rest : List ℕ) (fault : PacFault) → length codec ≡ 5 → run_in (is_lc3 codec) whole rest ≡ Err fault → record_in whole (codec ++ rest) ≡ Err fault
unfolding record_in
caps_fail whole codec rest fault five e = rw (codec_is codec rest five, e) refl

-- behind the capabilities the metadata fails
metadata_fails : (whole codec caps rest : List ℕ) (fault : PacFault) → length codec ≡ 5 → (codec ≡ lc3 → AreLtvs caps) → run_in true whole rest ≡ Err fault
    → record_in whole ((codec ++ counted caps) ++ rest) ≡ Err fault
unfolding record_in
metadata_fails whole codec caps rest fault five listed e = grind (arith, run_again, is_lc3, is_lc3-true, append_assoc, counted, codec_is)

short_same : {A : Type 0} (a b : PacFault) (read : Result A PacFault) → a ≡ b → read ≡ Err a → read ≡ Err b
short_same {A = A} a b read same e = e ∙ ap (λ (f : PacFault). Err f) same

codec_fails : (whole rest : List ℕ) → length rest < 5 → record_in whole rest ≡ Err (Short (place_in whole rest))
unfolding record_in
codec_fails whole rest lt = rw (few_octets 5 rest lt) refl

record_fails : (whole : List ℕ) (fields : Fields) (rest : List ℕ) (fault : PacFault) → Stop whole fields rest fault → record_in whole (octets_of fields ++ rest) ≡ Err fault
record_fails whole fields rest fault s = by_fields fields s.meet s.why
  where
    by_fields : (f : Fields) → MeetRows f → ((Short (place_in whole rest) ≡ fault) × (length rest < next_length f)) ⊎ (IsNextList f × NoList whole (next_length f) rest fault)
        → record_in whole (octets_of f ++ rest) ≡ Err fault
    by_fields to_codec meet (inl (same, short)) = short_same (Short (place_in whole rest)) fault (record_in whole rest) same (codec_fails whole rest short)
    by_fields to_codec meet (inr (list, none)) = absurd list
    by_fields (to_caps_length codec) meet (inl (same, short)) =
        short_same (Short (place_in whole rest)) fault (record_in whole (codec ++ rest)) same (caps_fail whole codec rest (Short (place_in whole rest)) meet (no_run (is_lc3 codec) whole rest short))
    by_fields (to_caps_length codec) meet (inr (list, none)) = absurd list
    by_fields (to_caps codec count) meet (inl (same, short)) =
        ap (record_in whole) (append_assoc codec (count ∷ []) rest)
        ∙ short_same (Short (place_in whole rest)) fault (record_in whole (codec ++ count ∷ rest)) same
        (caps_fail whole codec (count ∷ rest) (Short (place_in whole rest)) meet (short_run (is_lc3 codec) whole count rest short))
    by_fields (to_caps codec count) meet (inr (list, none)) =
        ap (record_in whole) (append_assoc codec (count ∷ []) rest)
        ∙ caps_fail whole codec (count ∷ rest) fault meet (ap (λ (b : Bool). run_in b whole (count ∷ rest)) (lc3-is codec list) ∙ bad_run whole count rest fault none)
    by_fields (to_metadata_length codec caps) meet (inl (same, short)) =
        short_same (Short (place_in whole rest)) fault (record_in whole ((codec ++ counted caps) ++ rest)) same
        (metadata_fails whole codec caps rest (Short (place_in whole rest)) meet.0 meet.1 (no_run true whole rest short))
    by_fields (to_metadata_length codec caps) meet (inr (list, none)) = absurd list
    by_fields (to_metadata codec caps count) meet (inl (same, short)) =
        ap (record_in whole) (append_assoc (codec ++ counted caps) (count ∷ []) rest)
        ∙ short_same (Short (place_in whole rest)) fault (record_in whole ((codec ++ counted caps) ++ count ∷ rest)) same
        (metadata_fails whole codec caps (count ∷ rest) (Short (place_in whole rest)) meet.0 meet.1 (short_run true whole count rest short))
    by_fields (to_metadata codec caps count) meet (inr (list, none)) =
        ap (record_in whole) (append_assoc (codec ++ counted caps) (count ∷ []) rest)
        ∙ metadata_fails whole codec caps (count ∷ rest) fault meet.0 meet.1 (bad_run whole count rest fault none)

-- ---- records

record_first : (whole : List ℕ) (count : ℕ) (from : List ℕ) (fault : PacFault) → record_in whole from ≡ Err fault → records_in whole (suc count) from ≡ Err fault
unfolding records_in
record_first whole count from fault e = rw e refl

records_behind : (whole : List ℕ) (count : ℕ) (entry : PacRecord) (rest : List ℕ) (fault : PacFault) → Fits entry → records_in whole count rest ≡ Err fault
    → records_in whole (suc count) (encoded entry ++ rest) ≡ Err fault
unfolding records_in
records_behind whole count entry rest fault fits e = rw (record_again whole entry rest fits, e) refl

records_fail : (whole : List ℕ) (records : List PacRecord) (count : ℕ) (from : List ℕ) (fault : PacFault) → length records < count → AllByRecursion Fits records → record_in whole from ≡ Err fault
    → records_in whole count (flat_map encoded records ++ from) ≡ Err fault
records_fail whole records zero from fault due fit e = absurd (omega (arith, due))
records_fail whole [] (suc count) from fault due fit e = record_first whole count from fault e
records_fail whole (entry ∷ records) (suc count) from fault due fit e = grind (arith, flat_map-cons encoded entry records, append_assoc (encoded entry) (flat_map encoded records) from, records_behind whole count entry (flat_map encoded records ++ from) fault fit.0 (records_fail whole records count from fault (omega (arith, due)) fit.1 e))

-- ---- the whole value

value_fails : (count : ℕ) (from : List ℕ) (fault : PacFault) → length (count ∷ from) ≤ greatest_value → records_in (count ∷ from) count from ≡ Err fault → value_in (count ∷ from) ≡ Err fault
unfolding value_in
value_fails count from fault small e = rw (le-ltb greatest_value (length (count ∷ from)) small, e) refl

cut_fails : (count : ℕ) (records : List PacRecord) (fields : Fields) (rest : List ℕ) (octets : List ℕ) (fault : PacFault) → length octets ≤ greatest_value → length records < count
    → AllByRecursion Fits records
    → octets ≡ count ∷ (flat_map encoded records ++ octets_of fields ++ rest) → Stop octets fields rest fault → value_in octets ≡ Err fault
cut_fails count records fields rest octets fault small due fit parts stop =
    let whole : List ℕ = count ∷ (flat_map encoded records ++ octets_of fields ++ rest) in
    let s : Stop whole fields rest fault = subst (λ (os : List ℕ). Stop os fields rest fault) parts stop in
    let read : records_in whole count (flat_map encoded records ++ octets_of fields ++ rest) ≡ Err fault =
    ap (records_in whole count) (append_assoc (flat_map encoded records) (octets_of fields) rest)
    ∙ records_fail whole records count (octets_of fields ++ rest) fault due fit (record_fails whole fields rest fault s) in
    ap value_in parts ∙ value_fails count (flat_map encoded records ++ octets_of fields ++ rest) fault (subst (λ (os : List ℕ). length os ≤ greatest_value) parts small) read

-- the place of the cut
at_cut : (place : ℕ) (octets : List ℕ) (cut : Cut place octets) → place_in octets cut.rest ≡ place
at_cut place octets cut = grind (arith, length-append, flat_map, encoded, octets_of, length)

short_fails : (place : ℕ) (octets : List ℕ) → length octets ≤ greatest_value → IsShort place octets → value_in octets ≡ Err (Short place)
unfolding value_in
short_fails place [] small at = ap (λ (p : ℕ). Err (Short p)) (sym at)
short_fails place (first ∷ octets) small (cut, short) =
    cut_fails cut.count cut.records cut.fields cut.rest (first ∷ octets) (Short place) small cut.due cut.fit cut.parts
    (record { meet = cut.meet; why = inl (ap (λ (p : ℕ). Short p) (at_cut place (first ∷ octets) cut), short) })

list_fails : (place : ℕ) (bad : LtvBad) (octets : List ℕ) → length octets ≤ greatest_value → IsNoList place bad octets → value_in octets ≡ Err (Ltv place bad)
list_fails place bad octets small n =
    cut_fails n.cut.count n.cut.records n.cut.fields n.cut.rest octets (Ltv place bad) small n.cut.due n.cut.fit n.cut.parts (record {
      meet = n.cut.meet;
      why = inr (n.list, record { bad = bad; run = n.run; behind = n.behind; long = n.whole; parts = n.parts; what = n.what; same = ap (λ (p : ℕ). Ltv p bad) (at_cut place octets n.cut) });
    })

trailing_read : (octets rest : List ℕ) (records : List PacRecord) (count : ℕ) (from : List ℕ) → octets ≡ count ∷ from → length octets ≤ greatest_value
    → records_in octets count from ≡ Ok (records, rest) → 0 < length rest → value_in octets ≡ Err (Trailing (place_in octets rest))
unfolding value_in
trailing_read octets rest records count from is small read more = grind (arith, octet_in, eqb, length, ne_eqb, le-ltb, greatest_value)

trailing_fails : (place : ℕ) (octets : List ℕ) → length octets ≤ greatest_value → IsTrailing place octets → value_in octets ≡ Err (Trailing place)
trailing_fails place octets small t =
    let long : place_in octets t.rest ≡ place = omega (arith, ap length t.parts, length-append (value t.records) t.rest, t.at) in
    trailing_read octets t.rest t.records (length t.records) (flat_map encoded t.records ++ t.rest) t.parts small (records_again octets t.records t.rest t.fit) t.more
    ∙ ap (λ (p : ℕ). Err (Trailing p)) long

too_long : (octets : List ℕ) → greatest_value < length octets → value_in octets ≡ Err TooLong
unfolding value_in
too_long octets long = rw (lt-ltb greatest_value (length octets) long) refl

pub fault_met : (fault : PacFault) (octets : List ℕ) → (fault ≡ Memory → ⊥) → IsFault fault octets → value_in octets ≡ Err fault
fault_met TooLong octets told long = too_long octets long
fault_met (Short place) octets told (small, short) = short_fails place octets small short
fault_met (Ltv place bad) octets told (small, none) = list_fails place bad octets small none
fault_met (Trailing place) octets told (small, t) = trailing_fails place octets small t
fault_met Memory octets told f = absurd (told refl)
