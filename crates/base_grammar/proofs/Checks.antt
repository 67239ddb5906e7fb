-- Looking through a BASE with a set of the indices that were met finds what reading finds.
use Rattle.base_grammar.proofs.Prelude.{◌≡◌, ◌≢◌, ◌==◌, ℕ, ◌+◌, ◌<◌, ◌≤◌, ◌↔◌, ◌||◌, Bool, true, false, eqb, List, [], ◌∷◌, ◌++◌, length, map, Option, Some, None, Result, Ok, Err, refl, sym, ap, subst, ◌∙◌, append_assoc, arith, IsTrue, cases_lt, lt-ltb, le-ltb, eqb-true, eqb-false, false_from_ne_true, map_push, list_any-append, octet_in, octets_in, place_in, BaseFault, BaseEntry, Subgroup, Endpoint, is_lc3, bis_of, indices, stands_in, index_fault, Finds, field_at, unless, rest_of, told, result_err}
use Rattle.bcast_base.specs.Bis.{Has}
use Rattle.base_grammar.specs.declared.fault.BaseFault.TheVariants as faults
use Rattle.base_grammar.specs.Checking.{Seen, Passed, Passes, same_bis, entry_bis, entries_bis, subgroup_bis}
use Rattle.base_grammar.specs.Reading.{run_at, index_at, entry_at, entries_at, streams_at, subgroup_at, subgroups_at, base_of}
use Rattle.base_grammar.proofs.Firsts.{read_bad}
use Rattle.base_grammar.proofs.Loops.{Entering, entering_next, entering_err, entering_done, Grouping, grouping_next, grouping_err, grouping_done, indices-push}
use Rattle.base_grammar.proofs.Steps.{none_index}

-- ---- the set

stands : (set : ℕ) (before : List ℕ) (bis : ℕ) (has : Bool) → Seen set before → 1 ≤ bis → bis ≤ 31 → (IsTrue has ↔ Has set bis) → has ≡ true → stands_in before bis ≡ true
stands set before bis has s least greatest h e = (s bis least greatest).0 (h.0 e)

stands_not : (set : ℕ) (before : List ℕ) (bis : ℕ) (has : Bool) → Seen set before → 1 ≤ bis → bis ≤ 31 → (IsTrue has ↔ Has set bis) → has ≡ false → stands_in before bis ≡ false
stands_not set before bis has s least greatest h e = grind (arith, false_from_ne_true, stands_in)

or_last : (a b : Bool) → b ≡ true → (a || (b || false)) ≡ true
or_last a b e = grind arith

or_none : (a b : Bool) → b ≡ false → (a || (b || false)) ≡ a
or_none a b e = grind arith

behind : (before : List ℕ) (bis b : ℕ) → stands_in (before ++ bis ∷ []) b ≡ (stands_in before b || ((bis == b) || false))
behind before bis b = list_any-append (λ x. x == b) before (bis ∷ [])

-- the set with one index more
pub seen_more : (set more bis : ℕ) (before : List ℕ) → Seen set before → Has more bis → ((b : ℕ) → 1 ≤ b → b ≢ bis → (Has more b ↔ Has set b)) → Seen more (before ++ bis ∷ [])
seen_more set more bis before s has others = λ b least greatest. by_test b least greatest (eqb bis b) refl
  where
    by_test : (b : ℕ) → 1 ≤ b → b ≤ 31 → (t : Bool) → eqb bis b ≡ t → Has more b ↔ IsTrue (stands_in (before ++ bis ∷ []) b)
    by_test b least greatest true e = (λ _. behind before bis b ∙ or_last (stands_in before b) (eqb bis b) e, λ _. subst (Has more) (eqb-true bis b e) has)
    by_test b least greatest false e =
        let same : stands_in (before ++ bis ∷ []) b ≡ stands_in before b = behind before bis b ∙ or_none (stands_in before b) (eqb bis b) e in
        let o = others b least (λ k. eqb-false bis b e (sym k)) in
        (λ h. same ∙ (s b least greatest).0 (o.0 h), λ h. o.1 ((s b least greatest).1 (sym same ∙ h)))

-- ---- an index

pub index_unread : (whole before rest : List ℕ) (f : BaseFault) → field_at whole rest (octet_in rest) ≡ Err f → index_at whole before rest ≡ Err f
unfolding index_at
index_unread whole before rest f e = rw e refl

index_tested : (whole before rest : List ℕ) (bis : ℕ) (after : List ℕ) (o : Option BaseFault) → field_at whole rest (octet_in rest) ≡ Ok (bis, after)
    → index_fault (place_in whole rest) before bis ≡ o → index_at whole before rest ≡ unless o (bis, after)
unfolding index_at
index_tested whole before rest bis after o e h = rw (e, h) refl

outside : (place : ℕ) (before : List ℕ) (bis : ℕ) → ((1 ≤ bis) × (bis ≤ 31) → ⊥) → index_fault place before bis ≡ Some (faults.BadIndex place)
outside place before bis none = grind (arith, cases_lt, lt-ltb, le-ltb)

twice : (place : ℕ) (before : List ℕ) (bis : ℕ) → 1 ≤ bis → bis ≤ 31 → stands_in before bis ≡ true → index_fault place before bis ≡ Some (faults.IndexTwice place)
twice place before bis least greatest e = rw (le-ltb bis 1 least, le-ltb 31 bis greatest, e) refl

pub index_outside : (whole before rest : List ℕ) (bis : ℕ) (after : List ℕ) → field_at whole rest (octet_in rest) ≡ Ok (bis, after) → ((1 ≤ bis) × (bis ≤ 31) → ⊥)
    → index_at whole before rest ≡ Err (faults.BadIndex (place_in whole rest))
index_outside whole before rest bis after e none =
    index_tested whole before rest bis after (Some (faults.BadIndex (place_in whole rest))) e (outside (place_in whole rest) before bis none)

pub index_twice : (whole before rest : List ℕ) (bis : ℕ) (after : List ℕ) (set : ℕ) (has : Bool) → field_at whole rest (octet_in rest) ≡ Ok (bis, after) → 1 ≤ bis → bis ≤ 31
    → Seen set before → (IsTrue has ↔ Has set bis) → has ≡ true → index_at whole before rest ≡ Err (faults.IndexTwice (place_in whole rest))
index_twice whole before rest bis after set has e least greatest s h met =
    index_tested whole before rest bis after (Some (faults.IndexTwice (place_in whole rest))) e
    (twice (place_in whole rest) before bis least greatest (stands set before bis has s least greatest h met))

pub index_passed : (whole before rest : List ℕ) (bis : ℕ) (after : List ℕ) (set more : ℕ) (has : Bool) → field_at whole rest (octet_in rest) ≡ Ok (bis, after) → 1 ≤ bis → bis ≤ 31
    → Seen set before → (IsTrue has ↔ Has set bis) → has ≡ false → Has more bis → ((b : ℕ) → 1 ≤ b → b ≢ bis → (Has more b ↔ Has set b))
    → Passed same_bis before more after (index_at whole before rest)
index_passed whole before rest bis after set more has e least greatest s h unmet new others =
    record {
      value = bis;
      same = index_tested whole before rest bis after None e
          (none_index (place_in whole rest) before bis least greatest (stands_not set before bis has s least greatest h unmet));
      seen = seen_more set more bis before s new others;
    }

-- ---- an entry

pub entry_unindexed : (whole : List ℕ) (l : Bool) (before rest : List ℕ) (f : BaseFault) → index_at whole before rest ≡ Err f → entry_at whole l before rest ≡ Err f
unfolding entry_at
entry_unindexed whole l before rest f e = rw e refl

pub entry_unread : (whole : List ℕ) (l : Bool) (before rest after : List ℕ) (set : ℕ) (f : BaseFault) → Passed same_bis before set after (index_at whole before rest)
    → run_at whole l after ≡ Err f → entry_at whole l before rest ≡ Err f
unfolding entry_at
entry_unread whole l before rest after set f p e = rw (p.same, e) refl

pub entry_passed : (whole : List ℕ) (l : Bool) (before rest after : List ℕ) (set : ℕ) (config left : List ℕ) → Passed same_bis before set after (index_at whole before rest)
    → run_at whole l after ≡ Ok (config, left) → Passed entry_bis before set left (entry_at whole l before rest)
unfolding entry_at
entry_passed whole l before rest after set config left p e = grind arith

-- ---- entries

-- the entries so far, what is read of the others, and their indices in the set
pub record EntriesPassed (whole : List ℕ) (l : Bool) (before : List ℕ) (count : ℕ) (from : List ℕ) (i : ℕ) (rest : List ℕ) (set : ℕ) : Type 0 where
  pub entries : List BaseEntry
  pub so_far : Entering whole l before count from entries i rest
  pub seen : Seen set (before ++ map bis_of entries)

-- whatever indices the first set has
pub record EntriesSoFar (whole : List ℕ) (l : Bool) (count : ℕ) (from : List ℕ) (first i : ℕ) (rest : List ℕ) (set : ℕ) : Type 0 where
  pub shorter : length rest ≤ length from
  pub passed : (before : List ℕ) → Seen first before → EntriesPassed whole l before count from i rest set

pub entries_next : (whole : List ℕ) (l : Bool) (count : ℕ) (from : List ℕ) (first i : ℕ) (rest : List ℕ) (set : ℕ) (more : ℕ) (after : List ℕ) → i < count → length after ≤ length rest
    → ((before : List ℕ) → Seen set before → Passed entry_bis before more after (entry_at whole l before rest))
    → EntriesSoFar whole l count from first i rest set → EntriesSoFar whole l count from first (i + 1) after more
entries_next whole l count from first i rest set more after lt h one so_far =
    record {
      shorter = omega (arith, h, so_far.shorter);
      passed = λ before s.
          let p = so_far.passed before s in
          let n = one (before ++ map bis_of p.entries) p.seen in
          let there : (before ++ map bis_of p.entries) ++ n.value.bis ∷ [] ≡ before ++ map bis_of (p.entries ++ n.value ∷ []) =
          append_assoc before (map bis_of p.entries) (n.value.bis ∷ []) ∙ ap (λ (bs : List ℕ). before ++ bs) (sym (map_push bis_of p.entries n.value)) in
          record {
            entries = p.entries ++ n.value ∷ [];
            so_far = entering_next whole l before count from p.entries i rest n.value after lt n.same h p.so_far;
            seen = subst (Seen more) there n.seen;
          };
    }

pub entries_failed : (whole : List ℕ) (l : Bool) (count : ℕ) (from : List ℕ) (first i : ℕ) (rest : List ℕ) (set : ℕ) (f : BaseFault) → i < count
    → ((before : List ℕ) → Seen set before → entry_at whole l before rest ≡ Err f) → EntriesSoFar whole l count from first i rest set
    → (before : List ℕ) → Seen first before → entries_at whole l before count from ≡ Err f
entries_failed whole l count from first i rest set f lt one so_far before s =
    let p = so_far.passed before s in
    entering_err f whole l before count from p.entries i rest lt (one (before ++ map bis_of p.entries) p.seen) p.so_far

pub entries_passed : (whole : List ℕ) (l : Bool) (count : ℕ) (from : List ℕ) (first i : ℕ) (rest : List ℕ) (set : ℕ) → count ≤ i → EntriesSoFar whole l count from first i rest set
    → (before : List ℕ) → Seen first before → Passed entries_bis before set rest (entries_at whole l before count from)
entries_passed whole l count from first i rest set le so_far before s =
    let p = so_far.passed before s in
    record { value = p.entries; same = entering_done whole l before count from p.entries i rest le p.so_far; seen = p.seen }

-- ---- a subgroup

pub subgroup_uncounted : (whole before rest : List ℕ) (f : BaseFault) → streams_at whole rest ≡ Err f → subgroup_at whole before rest ≡ Err f
unfolding subgroup_at
subgroup_uncounted whole before rest f e = rw e refl

pub subgroup_uncoded : (whole before rest : List ℕ) (count : ℕ) (r1 : List ℕ) (f : BaseFault) → streams_at whole rest ≡ Ok (count, r1) → field_at whole r1 (octets_in 5 r1) ≡ Err f
    → subgroup_at whole before rest ≡ Err f
unfolding subgroup_at
subgroup_uncoded whole before rest count r1 f a e = rw (a, e) refl

pub subgroup_unconfigured : (whole before rest : List ℕ) (count : ℕ) (r1 codec r2 : List ℕ) (f : BaseFault) → streams_at whole rest ≡ Ok (count, r1)
    → field_at whole r1 (octets_in 5 r1) ≡ Ok (codec, r2) → run_at whole (is_lc3 codec) r2 ≡ Err f → subgroup_at whole before rest ≡ Err f
unfolding subgroup_at
subgroup_unconfigured whole before rest count r1 codec r2 f a b e = rw (a, b, e) refl

pub subgroup_undescribed : (whole before rest : List ℕ) (count : ℕ) (r1 codec r2 config r3 : List ℕ) (f : BaseFault) → streams_at whole rest ≡ Ok (count, r1)
    → field_at whole r1 (octets_in 5 r1) ≡ Ok (codec, r2) → run_at whole (is_lc3 codec) r2 ≡ Ok (config, r3) → run_at whole true r3 ≡ Err f → subgroup_at whole before rest ≡ Err f
unfolding subgroup_at
subgroup_undescribed whole before rest count r1 codec r2 config r3 f a b c e = rw (a, b, c, e) refl

pub subgroup_unread : (whole before rest : List ℕ) (count : ℕ) (r1 codec r2 config r3 metadata r4 : List ℕ) (f : BaseFault) → streams_at whole rest ≡ Ok (count, r1)
    → field_at whole r1 (octets_in 5 r1) ≡ Ok (codec, r2) → run_at whole (is_lc3 codec) r2 ≡ Ok (config, r3) → run_at whole true r3 ≡ Ok (metadata, r4)
    → entries_at whole (is_lc3 codec) before count r4 ≡ Err f → subgroup_at whole before rest ≡ Err f
unfolding subgroup_at
subgroup_unread whole before rest count r1 codec r2 config r3 metadata r4 f a b c d e = rw (a, b, c, d, e) refl

pub subgroup_read : (whole before rest : List ℕ) (count : ℕ) (r1 codec r2 config r3 metadata r4 : List ℕ) (es : List BaseEntry) (left : List ℕ) → streams_at whole rest ≡ Ok (count, r1)
    → field_at whole r1 (octets_in 5 r1) ≡ Ok (codec, r2) → run_at whole (is_lc3 codec) r2 ≡ Ok (config, r3) → run_at whole true r3 ≡ Ok (metadata, r4)
    → entries_at whole (is_lc3 codec) before count r4 ≡ Ok (es, left)
    → subgroup_at whole before rest ≡ Ok (record { codec = codec; config = config; metadata = metadata; entries = es }, left)
unfolding subgroup_at
subgroup_read whole before rest count r1 codec r2 config r3 metadata r4 es left a b c d e = rw (a, b, c, d, e) refl

pub subgroup_ends : {R : Type 0} (view : R → List ℕ) (result : Result R BaseFault) (set : ℕ) (before codec config metadata : List ℕ)
    (read : Result (List BaseEntry × List ℕ) BaseFault) (group : Result (Subgroup × List ℕ) BaseFault)
    → ((entries : List BaseEntry) (left : List ℕ) → read ≡ Ok (entries, left) → group ≡ Ok (record { codec = codec; config = config; metadata = metadata; entries = entries }, left))
    → ((fault : BaseFault) → read ≡ Err fault → group ≡ Err fault) → Passes entries_bis before set view result read → Passes subgroup_bis before set view result group
subgroup_ends view (Ok left) set before codec config metadata read group ok err p =
    record { value = record { codec = codec; config = config; metadata = metadata; entries = p.value }; same = ok p.value (view left) p.same; seen = p.seen }
subgroup_ends view (Err fault) set before codec config metadata read group ok err p = err fault p

-- ---- subgroups

-- the subgroups so far, what is read of the others, and their indices in the set
pub record SubgroupsPassed (whole : List ℕ) (count : ℕ) (from : List ℕ) (i : ℕ) (rest : List ℕ) (set : ℕ) : Type 0 where
  pub subgroups : List Subgroup
  pub so_far : Grouping whole count from subgroups i rest
  pub seen : Seen set (indices subgroups)

pub subgroups_next : (whole : List ℕ) (count : ℕ) (from : List ℕ) (i : ℕ) (rest : List ℕ) (set more : ℕ) (after : List ℕ) → i < count → length after ≤ length rest
    → ((before : List ℕ) → Seen set before → Passed subgroup_bis before more after (subgroup_at whole before rest))
    → SubgroupsPassed whole count from i rest set → SubgroupsPassed whole count from (i + 1) after more
subgroups_next whole count from i rest set more after lt h one p =
    let n = one (indices p.subgroups) p.seen in
    record {
      subgroups = p.subgroups ++ n.value ∷ [];
      so_far = grouping_next whole count from p.subgroups i rest n.value after lt n.same h p.so_far;
      seen = subst (Seen more) (sym (indices-push p.subgroups n.value)) n.seen;
    }

pub subgroups_failed : (whole : List ℕ) (count : ℕ) (from : List ℕ) (i : ℕ) (rest : List ℕ) (set : ℕ) (f : BaseFault) → i < count
    → ((before : List ℕ) → Seen set before → subgroup_at whole before rest ≡ Err f) → SubgroupsPassed whole count from i rest set → rest_of (subgroups_at whole [] count from) ≡ Err f
subgroups_failed whole count from i rest set f lt one p =
    ap rest_of (grouping_err f whole count from p.subgroups i rest lt (one (indices p.subgroups) p.seen) p.so_far)

pub subgroups_passed : (whole : List ℕ) (count : ℕ) (from : List ℕ) (i : ℕ) (rest : List ℕ) (set : ℕ) → count ≤ i → SubgroupsPassed whole count from i rest set
    → rest_of (subgroups_at whole [] count from) ≡ Ok rest
subgroups_passed whole count from i rest set le p = ap rest_of (grouping_done whole count from p.subgroups i rest le p.so_far)

-- ---- the answers

err_by : (read : Result Endpoint BaseFault) (f : BaseFault) → Some f ≡ result_err read → read ≡ Err f
err_by (Ok v) f e = absurd cc
err_by (Err other) f e = ap (λ (x : BaseFault). Err x) (some_same other f (sym e))
  where
    some_same : (a b : BaseFault) → (let r : BaseFault → Option BaseFault = λ z. Some z in r a ≡ r b) → a ≡ b
    some_same a b h = cc

refused : (octets : List ℕ) (f : BaseFault) → base_of octets ≡ Err f → Finds (told f) (base_of octets)
refused octets (faults.Short place) e = e
refused octets faults.NoSubgroup e = e
refused octets (faults.NoBis place) e = e
refused octets (faults.BadIndex place) e = e
refused octets (faults.IndexTwice place) e = e
refused octets (faults.Ltv place bad) e = e
refused octets (faults.Trailing place) e = e
refused octets faults.TooLong e = e
refused octets faults.Memory e = absurd (read_bad faults.Memory octets e)

pub fault_refused : (octets : List ℕ) (f : BaseFault) → Some f ≡ result_err (base_of octets) → Finds (told f) (base_of octets)
fault_refused octets f e = refused octets f (err_by (base_of octets) f e)
