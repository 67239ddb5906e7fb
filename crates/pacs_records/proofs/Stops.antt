-- A fault is the one at the cut.
use Rattle.pacs_records.proofs.Prelude.{◌≡◌, ℕ, zero, suc, ◌+◌, ◌<◌, ◌≤◌, ◌⊎◌, Bool, true, false, cond, eqb, ltb, List, [], ◌∷◌, ◌++◌, length, get_or, take, drop, Option, Some, None, Result, Ok, Err, refl, sym, ap, subst, ◌∙◌, append_assoc, arith, inl, inr, IfErr, IsOk, flat_map, AllByRecursion, result_err, ltb-true, ltb-false, same_Some, length-append, flat_map-cons, IsOctets, octet, counted, octet_in, octets_in, place_in, Takes, octet_takes, octets_take, IsOctets-prefix, Takes-then, err_is, ok_no, bind_err, needed_err, LtvBad, AreLtvs, ltvs_of, bad_of, PacFault, TooLong, Short, Ltv, Trailing, Memory, PacRecord, Fields, to_codec, to_caps_length, to_caps, to_metadata_length, to_metadata, octets_of, next_length, MeetRows, IsNextList, Cut, IsFault, lc3, is_lc3, greatest_value, encoded, value, Fits, PacIs, ◌>>=◌, Answers, told, field_at, codec_in, checked, read_bad}
use Rattle.ltv_codec.specs.declared.ltvs.Ltv.{Ltv as Structure}
use Rattle.ltv_codec.specs.Faults.{IsBad}
use Rattle.pacs_records.specs.Reading.{run_in, record_in, records_in, value_in}
use Rattle.pacs_records.proofs.Fields.{field_ok, is_lc3-true, lc3-is, run_takes, record_takes, records_take, value_takes}

-- ---- steps that fail

field_err : {A : Type 0} (place : ℕ) (field : Option A) (fault : PacFault) → field_at place field ≡ Err fault → (field ≡ None) × (Short place ≡ fault)
field_err place field fault e = needed_err (Short place) field fault e

checked_err : (place : ℕ) (listed : Bool) (bad : Option LtvBad) (run : List ℕ × List ℕ) (fault : PacFault) → checked place listed bad run ≡ Err fault
    → (b : LtvBad) × (listed ≡ true) × (bad ≡ Some b) × (Ltv place b ≡ fault)
checked_err place listed bad run fault e = grind (arith, ok_no, err_is)

no_octet : (from : List ℕ) → octet_in from ≡ None → from ≡ []
no_octet from e = grind arith

too_few : (k : ℕ) (from : List ℕ) → octets_in k from ≡ None → length from < k
too_few k from e = by_test (ltb (length from) k) refl e
  where
    by_test : (b : Bool) → ltb (length from) k ≡ b → cond {A = Option (List ℕ × List ℕ)} b None (Some (take k from, drop k from)) ≡ None → length from < k
    by_test true t e = ltb-true _ _ t
    by_test false t e = absurd cc

bad_is : (run : List ℕ) (bad : LtvBad) → IsOctets run → bad_of run ≡ Some bad → IsBad bad run
bad_is run bad fits e = read_bad bad run fits (err_in (ltvs_of run) e)
  where
    err_in : (read : Result (List Structure) LtvBad) → result_err read ≡ Some bad → read ≡ Err bad
    err_in (Ok ltvs) e = absurd cc
    err_in (Err other) e = ap (λ (b : LtvBad). Err b) (same_Some other bad e)

-- ---- a run that stops

-- the octets at the cut are too few, or are no list
pub record NoList (whole : List ℕ) (count : ℕ) (rest : List ℕ) (fault : PacFault) : Type 0 where
  pub bad : LtvBad
  pub run : List ℕ
  pub behind : List ℕ
  pub long : length run ≡ count
  pub parts : rest ≡ run ++ behind
  pub what : IsBad bad run
  pub same : Ltv (place_in whole rest) bad ≡ fault

record RunCut (listed : Bool) (whole from : List ℕ) (fault : PacFault) : Type 0 where
  count : ℕ
  rest : List ℕ
  parts : from ≡ count ∷ rest
  why : ((Short (place_in whole rest) ≡ fault) × (length rest < count)) ⊎ ((listed ≡ true) × NoList whole count rest fault)

run_stops : (listed : Bool) (whole from : List ℕ) (fault : PacFault) → IsOctets from → run_in listed whole from ≡ Err fault → ((from ≡ []) × (Short (place_in whole from) ≡ fault))
    ⊎ RunCut listed whole from fault
unfolding run_in
run_stops listed whole from fault fits e =
    elim (bind_err (field_at (place_in whole from) (octet_in from)) _ fault e) [
      | inl none ↦ grind (arith, field_err, place_in, octet_in, no_octet)
      | inr a ↦
          let t0 = octet_takes from a.0.0 a.0.1 (field_ok (place_in whole from) (octet_in from) a.0 a.1) in
          inr (elim (bind_err (field_at (place_in whole a.0.1) (octets_in a.0.0 a.0.1)) _ fault a.2) [
            | inl none ↦ grind (arith, field_err, place_in, octets_in, too_few)
            | inr b ↦
                let t1 = octets_take a.0.0 a.0.1 b.0.0 b.0.1 (field_ok (place_in whole a.0.1) (octets_in a.0.0 a.0.1) b.0 b.1) in
                let c = checked_err (place_in whole a.0.1) listed (bad_of b.0.0) b.0 fault b.2 in
                let run_fits : IsOctets b.0.0 = IsOctets-prefix b.0.0 b.0.1 (subst IsOctets t1.0.parts (t0.fits fits)) in
                record {
                  count = a.0.0;
                  rest = a.0.1;
                  parts = t0.parts;
                  why =
                      inr (c.1, record { bad = c.0; run = b.0.0; behind = b.0.1; long = t1.1; parts = t1.0.parts; what = bad_is b.0.0 c.0 run_fits c.2; same = c.3 });
                }
          ])
    ]

-- ---- a record that stops

-- the fields in front of the cut meet their rows, and this is wrong with what follows
pub record Stop (whole : List ℕ) (fields : Fields) (rest : List ℕ) (fault : PacFault) : Type 0 where
  pub meet : MeetRows fields
  pub why : ((Short (place_in whole rest) ≡ fault) × (length rest < next_length fields)) ⊎ (IsNextList fields × NoList whole (next_length fields) rest fault)

record RecordStop (whole from : List ℕ) (fault : PacFault) : Type 0 where
  fields : Fields
  rest : List ℕ
  stop : Stop whole fields rest fault
  parts : from ≡ octets_of fields ++ rest

caps_stop : (whole codec from : List ℕ) (fault : PacFault) → length codec ≡ 5 → ((from ≡ []) × (Short (place_in whole from) ≡ fault)) ⊎ RunCut (is_lc3 codec) whole from fault
    → RecordStop whole (codec ++ from) fault
caps_stop whole codec from fault five (inl (none, same)) =
    record { fields = to_caps_length codec; rest = from; stop = record { meet = five; why = inl (same, omega (arith, ap length none)) }; parts = refl }
caps_stop whole codec from fault five (inr cut) =
    let parts : codec ++ from ≡ (codec ++ cut.count ∷ []) ++ cut.rest = ap (λ (os : List ℕ). codec ++ os) cut.parts ∙ sym (append_assoc codec (cut.count ∷ []) cut.rest) in
    elim cut.why [
      | inl short ↦ record { fields = to_caps codec cut.count; rest = cut.rest; stop = record { meet = five; why = inl short }; parts = parts }
      | inr (listed, none) ↦ record { fields = to_caps codec cut.count; rest = cut.rest; stop = record { meet = five; why = inr (is_lc3-true codec listed, none) }; parts = parts }
    ]

metadata_stop : (whole codec caps from : List ℕ) (fault : PacFault) → length codec ≡ 5 → (codec ≡ lc3 → AreLtvs caps) → ((from ≡ []) × (Short (place_in whole from) ≡ fault))
    ⊎ RunCut true whole from fault → RecordStop whole ((codec ++ counted caps) ++ from) fault
metadata_stop whole codec caps from fault five listed (inl (none, same)) =
    record { fields = to_metadata_length codec caps; rest = from; stop = record { meet = (five, listed); why = inl (same, omega (arith, ap length none)) }; parts = refl }
metadata_stop whole codec caps from fault five listed (inr cut) =
    let parts : (codec ++ counted caps) ++ from ≡ ((codec ++ counted caps) ++ cut.count ∷ []) ++ cut.rest = grind (arith, counted, append_assoc) in
    elim cut.why [
      | inl short ↦ record { fields = to_metadata codec caps cut.count; rest = cut.rest; stop = record { meet = (five, listed); why = inl short }; parts = parts }
      | inr (so, none) ↦ record { fields = to_metadata codec caps cut.count; rest = cut.rest; stop = record { meet = (five, listed); why = inr (tt, none) }; parts = parts }
    ]

record_stops : (whole from : List ℕ) (fault : PacFault) → IsOctets from → record_in whole from ≡ Err fault → RecordStop whole from fault
unfolding record_in
record_stops whole from fault fits e =
    elim (bind_err (codec_in whole from) _ fault e) [
      | inl none ↦ grind (arith, field_err, place_in, octets_in, to_codec, too_few)
      | inr a ↦
          let t0 = octets_take 5 from a.0.0 a.0.1 (field_ok (place_in whole from) (octets_in 5 from) a.0 a.1) in
          elim (bind_err (run_in (is_lc3 a.0.0) whole a.0.1) _ fault a.2) [
            | inl none ↦ rw t0.0.parts (caps_stop whole a.0.0 a.0.1 fault t0.1 (run_stops (is_lc3 a.0.0) whole a.0.1 fault (t0.0.fits fits) none))
            | inr b ↦
                let t1 = run_takes (is_lc3 a.0.0) whole a.0.1 b.0 (t0.0.fits fits) b.1 in
                let both = Takes-then from a.0.0 a.0.1 (counted b.0.0) b.0.1 t0.0 t1.0 in
                elim (bind_err (run_in true whole b.0.1) _ fault b.2) [
                  | inl none ↦ rw both.parts (metadata_stop whole a.0.0 b.0.0 b.0.1 fault t0.1 (λ same. t1.2 (lc3-is a.0.0 same)) (run_stops true whole b.0.1 fault (both.fits fits) none))
                  | inr c ↦ absurd (ok_no (record { codec = a.0.0; caps = b.0.0; metadata = c.0.0 }, c.0.1) fault c.2)
                ]
          ]
    ]

-- ---- records that stop

record RecordsStop (whole : List ℕ) (count : ℕ) (from : List ℕ) (fault : PacFault) : Type 0 where
  records : List PacRecord
  fields : Fields
  rest : List ℕ
  due : length records < count
  fit : AllByRecursion Fits records
  stop : Stop whole fields rest fault
  parts : from ≡ flat_map encoded records ++ octets_of fields ++ rest

one_more : (whole : List ℕ) (count : ℕ) (from : List ℕ) (fault : PacFault) (entry : PacRecord) (after : List ℕ) → Takes from (encoded entry) after → Fits entry
    → RecordsStop whole count after fault → RecordsStop whole (suc count) from fault
one_more whole count from fault entry after t fits s =
    let parts : from ≡ flat_map encoded (entry ∷ s.records) ++ octets_of s.fields ++ s.rest = grind (arith, encoded, append_assoc, flat_map, octets_of, flat_map-cons) in
    record { records = entry ∷ s.records; fields = s.fields; rest = s.rest; due = omega (arith, s.due); fit = (fits, s.fit); stop = s.stop; parts = parts }

records_stop : (whole : List ℕ) (count : ℕ) (from : List ℕ) (fault : PacFault) → IsOctets from → records_in whole count from ≡ Err fault → RecordsStop whole count from fault
unfolding records_in
records_stop whole zero from fault fits e = absurd (ok_no ([], from) fault e)
records_stop whole (suc count) from fault fits e =
    elim (bind_err (record_in whole from) _ fault e) [
      | inl stopped ↦
          let s = record_stops whole from fault fits stopped in
          record { records = []; fields = s.fields; rest = s.rest; due = omega arith; fit = tt; stop = s.stop; parts = s.parts }
      | inr a ↦
          let first = record_takes whole from a.0 fits a.1 in
          elim (bind_err (records_in whole count a.0.1) _ fault a.2) [
            | inl stopped ↦ one_more whole count from fault a.0.0 a.0.1 first.0 first.1 (records_stop whole count a.0.1 fault (first.0.fits fits) stopped)
            | inr b ↦ absurd (ok_no (a.0.0 ∷ b.0.0, b.0.1) fault b.2)
          ]
    ]

-- ---- the whole value

abbrev cut_of : (count : ℕ) (from : List ℕ) (fault : PacFault) (s : RecordsStop (count ∷ from) count from fault) → Cut (place_in (count ∷ from) s.rest) (count ∷ from)
cut_of count from fault s =
    let long : length from ≡ length (flat_map encoded s.records) + length (octets_of s.fields) + length s.rest =
    ap length s.parts ∙ length-append (flat_map encoded s.records ++ octets_of s.fields) s.rest ∙ ap (λ (n : ℕ). n + length s.rest) (length-append (flat_map encoded s.records) (octets_of s.fields)) in
    record {
      count = count;
      records = s.records;
      fields = s.fields;
      rest = s.rest;
      due = s.due;
      fit = s.fit;
      meet = s.stop.meet;
      parts = ap (λ (os : List ℕ). count ∷ os) s.parts;
      at = omega (arith, long);
    }

records_fault : (count : ℕ) (from : List ℕ) (fault : PacFault) → length (count ∷ from) ≤ greatest_value → RecordsStop (count ∷ from) count from fault → IsFault fault (count ∷ from)
records_fault count from fault small s =
    let cut = cut_of count from fault s in
    elim s.stop.why [
      | inl (same, short) ↦ rw (← same) (small, (cut, short))
      | inr (list, none) ↦ rw (← none.same) (small, record { cut = cut; list = list; run = none.run; behind = none.behind; whole = none.long; parts = none.parts; what = none.what })
    ]

trailing_fault : (octets : List ℕ) (count : ℕ) (from rest : List ℕ) (records : List PacRecord) → length octets ≤ greatest_value → octets ≡ count ∷ from
    → Takes from (flat_map encoded records) rest → length records ≡ count → AllByRecursion Fits records → 0 < length rest
    → IsFault (Trailing (place_in octets rest)) octets
trailing_fault octets count from rest records small is t all fit more = grind (arith, value, flat_map, encoded, length, length-append)

not_ended : (octets rest : List ℕ) (records : List PacRecord) (fault : PacFault) → cond (eqb (length rest) 0) (Ok records) (Err (Trailing (place_in octets rest))) ≡ Err fault
    → (0 < length rest) × (Trailing (place_in octets rest) ≡ fault)
not_ended octets rest records fault e = by_test rest (Trailing (place_in octets rest)) (eqb (length rest) 0) refl e
  where
    by_test : (left : List ℕ) (other : PacFault) (b : Bool) → eqb (length left) 0 ≡ b → cond {A = Result (List PacRecord) PacFault} b (Ok records) (Err other) ≡ Err fault → (0 < length left)
        × (other ≡ fault)
    by_test left other true t e = absurd (ok_no records fault e)
    by_test [] other false t e = absurd cc
    by_test (first ∷ left) other false t e = (omega arith, err_is {A = List PacRecord} other fault e)

guard_err : {A : Type 0} (b : Bool) (other : PacFault) (read : Result A PacFault) (fault : PacFault) → cond b (Err other) read ≡ Err fault → ((b ≡ true) × (other ≡ fault))
    ⊎ ((b ≡ false) × (read ≡ Err fault))
guard_err {A = A} true other read fault e = inl (refl, err_is {A = A} other fault e)
guard_err false other read fault e = inr (refl, e)

behind_count : (octets : List ℕ) (count : ℕ) (from : List ℕ) (fault : PacFault) → length octets ≤ greatest_value → IsOctets octets → Takes octets (octet count) from
    → (records_in octets count from >>= λ x. cond (eqb (length x.1) 0) (Ok x.0) (Err (Trailing (place_in octets x.1)))) ≡ Err fault → IsFault fault octets
behind_count octets count from fault small fits t e =
    elim (bind_err (records_in octets count from) _ fault e) [
      | inl stopped ↦ grind (arith, records_stop, records_fault, length, greatest_value)
      | inr b ↦
          let t1 = records_take octets count from b.0 (t.fits fits) b.1 in
          let n = not_ended octets b.0.1 b.0.0 fault b.2 in
          rw (← n.1) (trailing_fault octets count from b.0.1 b.0.0 small t.parts t1.0 t1.1 t1.2 n.0)
    ]

no_count : (octets : List ℕ) → length octets ≤ greatest_value → octets ≡ [] → IsFault (Short 0) octets
no_count octets small none = grind arith

pub value_stops : (fault : PacFault) (octets : List ℕ) → IsOctets octets → value_in octets ≡ Err fault → IsFault fault octets
unfolding value_in
value_stops fault octets fits e =
    elim (guard_err (ltb greatest_value (length octets)) TooLong _ fault e) [
      | inl (long, same) ↦ rw (← same) (ltb-true _ _ long)
      | inr (short, read) ↦
          let small : length octets ≤ greatest_value = ltb-false _ _ short in
          elim (bind_err (field_at 0 (octet_in octets)) _ fault read) [
            | inl none ↦ grind (arith, field_err, octet_in, no_count, no_octet)
            | inr a ↦ behind_count octets a.0.0 a.0.1 fault small fits (octet_takes octets a.0.0 a.0.1 (field_ok 0 (octet_in octets) a.0 a.1)) a.2
          ]
    ]

a_value : (octets : List ℕ) (read : Result (List PacRecord) PacFault) → IsOctets octets → value_in octets ≡ read → IsOk read
    → (records : List PacRecord) × PacIs records octets
a_value octets (Ok records) fits e ok = (records, value_takes octets records fits e)
a_value octets (Err fault) fits e ok = absurd cc

-- the number in front is that of the records
some_records : (octets : List ℕ) (records : List PacRecord) → PacIs records octets → 0 < get_or octets 0 0 → 0 < length records
some_records octets records p some = subst (λ (z : List ℕ). 0 < get_or z 0 0) p.is some

pub is_fault : (octets : List ℕ) (result : Result (List PacRecord) PacFault) → IsOctets octets → Answers told result (value_in octets)
    → (result ≡ Err Memory → 0 < get_or octets 0 0) → IfErr result (λ fault. IsFault fault octets)
is_fault octets (Err Memory) fits given some =
    let v = a_value octets (value_in octets) fits refl given in
    (v.0, v.1, some_records octets v.0 v.1 (some refl))
is_fault octets result fits given some = search (a_value, some_records, value_stops)
