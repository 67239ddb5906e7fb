-- What is encoded as a BASE is read.
use Rattle.base_grammar.proofs.Prelude.{◌≡◌, ℕ, suc, ◌≤◌, Bool, false, cond, ltb, List, [], ◌∷◌, ◌++◌, length, map, Some, Result, Ok, Err, refl, sym, ap, subst, ◌∙◌, append_assoc, arith, IfOk, flat_map, AllByRecursion, ltb-false, le-ltb, append-nil, flat_map-cons, octets_in, place_in, IsOctets, counted, octets_again, number_again, BaseFault, TooLong, BaseEntry, Subgroup, Endpoint, is_lc3, entry, subgroup, encoding, bis_of, indices, stands_in, AreNew, IsConfig, EntryFits, SubgroupFits, HasEntry, IsBase, BaseIs, told, Answers}
use Rattle.base_grammar.specs.Reading.{run_at, index_at, entry_at, entries_at, streams_at, subgroup_at, subgroups_at, count_at, fields_of, base_of}
use Rattle.base_grammar.proofs.Steps.{none_run, none_index, none_streams, none_subgroups}
use Rattle.base_grammar.proofs.Taken.{fields_take}

run_again : (whole : List ℕ) (is_list : Bool) (value rest : List ℕ) → IsConfig is_list value → run_at whole is_list (counted value ++ rest) ≡ Ok (value, rest)
unfolding run_at
run_again whole is_list value rest h = rw (octets_again value rest, none_run (place_in whole (value ++ rest)) is_list value h) refl

index_again : (whole before : List ℕ) (bis : ℕ) (rest : List ℕ) → 1 ≤ bis → bis ≤ 31 → stands_in before bis ≡ false → index_at whole before (bis ∷ rest) ≡ Ok (bis, rest)
unfolding index_at
index_again whole before bis rest least greatest is_new = rw (none_index (place_in whole (bis ∷ rest)) before bis least greatest is_new) refl

streams_again : (whole : List ℕ) (count : ℕ) (rest : List ℕ) → 1 ≤ count → streams_at whole (count ∷ rest) ≡ Ok (count, rest)
unfolding streams_at
streams_again whole count rest h = rw (none_streams (place_in whole (count ∷ rest)) count h) refl

count_again : (whole : List ℕ) (count : ℕ) (rest : List ℕ) → 1 ≤ count → count_at whole (count ∷ rest) ≡ Ok (count, rest)
unfolding count_at
count_again whole count rest h = rw (none_subgroups count h) refl

entry_again : (whole : List ℕ) (is_list : Bool) (before : List ℕ) (e : BaseEntry) (rest : List ℕ) → EntryFits is_list e → stands_in before e.bis ≡ false
    → entry_at whole is_list before (entry e ++ rest) ≡ Ok (e, rest)
unfolding entry_at
entry_again whole is_list before e rest fits is_new = grind (arith, index_again, counted, run_again)

entries_again : (whole : List ℕ) (is_list : Bool) (before : List ℕ) (es : List BaseEntry) (rest : List ℕ) → AllByRecursion (EntryFits is_list) es → AreNew before (map bis_of es)
    → entries_at whole is_list before (length es) (flat_map entry es ++ rest) ≡ Ok (es, rest)
unfolding entries_at
entries_again whole is_list before [] rest fit are_new = refl
entries_again whole is_list before (e ∷ es) rest fit are_new =
    let regrouped : flat_map entry (e ∷ es) ++ rest ≡ entry e ++ (flat_map entry es ++ rest) = grind (arith, flat_map-cons, entry, append_assoc, flat_map) in
    ap (entries_at whole is_list before (suc (length es))) regrouped
    ∙ rw (entry_again whole is_list before e (flat_map entry es ++ rest) fit.0 are_new.0, entries_again whole is_list (before ++ e.bis ∷ []) es rest fit.1 are_new.1) refl

five_again : (codec rest : List ℕ) → length codec ≡ 5 → octets_in 5 (codec ++ rest) ≡ Some (codec, rest)
five_again codec rest long = subst (λ (n : ℕ). octets_in n (codec ++ rest) ≡ Some (codec, rest)) long (octets_again codec rest)

subgroup_again : (whole before : List ℕ) (s : Subgroup) (rest : List ℕ) → SubgroupFits s → HasEntry s → AreNew before (map bis_of s.entries)
    → subgroup_at whole before (subgroup s ++ rest) ≡ Ok (s, rest)
unfolding subgroup_at
subgroup_again whole before s rest fits some are_new =
    grind (arith, flat_map, entry, subgroup, length, counted, append_assoc, streams_again, five_again, run_again, is_lc3, entries_again)

pub AreNew-first : (before xs ys : List ℕ) → AreNew before (xs ++ ys) → AreNew before xs
AreNew-first before [] ys h = tt
AreNew-first before (x ∷ xs) ys h = (h.0, AreNew-first (before ++ x ∷ []) xs ys h.1)

pub AreNew-second : (before xs ys : List ℕ) → AreNew before (xs ++ ys) → AreNew (before ++ xs) ys
AreNew-second before [] ys h = subst (λ (bs : List ℕ). AreNew bs ys) (sym (append-nil before)) h
AreNew-second before (x ∷ xs) ys h = subst (λ (bs : List ℕ). AreNew bs ys) (append_assoc before (x ∷ []) xs) (AreNew-second (before ++ x ∷ []) xs ys h.1)

subgroups_again : (whole before : List ℕ) (ss : List Subgroup) (rest : List ℕ) → AllByRecursion SubgroupFits ss → AllByRecursion HasEntry ss → AreNew before (indices ss)
    → subgroups_at whole before (length ss) (flat_map subgroup ss ++ rest) ≡ Ok (ss, rest)
unfolding subgroups_at
subgroups_again whole before [] rest fit streams are_new = refl
subgroups_again whole before (s ∷ ss) rest fit streams are_new =
    let regrouped : flat_map subgroup (s ∷ ss) ++ rest ≡ subgroup s ++ (flat_map subgroup ss ++ rest) = grind (arith, flat_map-cons, subgroup, append_assoc, flat_map) in
    let all : AreNew before (map bis_of s.entries ++ indices ss) = subst (AreNew before) (flat_map-cons (λ (x : Subgroup). map bis_of x.entries) s ss) are_new in
    ap (subgroups_at whole before (suc (length ss))) regrouped ∙ rw (
      subgroup_again whole before s (flat_map subgroup ss ++ rest) fit.0 streams.0 (AreNew-first before (map bis_of s.entries) (indices ss) all),
      subgroups_again whole (before ++ map bis_of s.entries) ss rest fit.1 streams.1 (AreNew-second before (map bis_of s.entries) (indices ss) all),
    ) refl

fields_again : (whole : List ℕ) (v : Endpoint) → IsBase v → whole ≡ encoding v → fields_of whole ≡ Ok v
unfolding fields_of
fields_again whole v b encoded =
    grind (
      arith,
      number_again 3 v.delay (length v.subgroups ∷ flat_map subgroup v.subgroups) b.delay,
      append-nil (flat_map subgroup v.subgroups),
      subgroups_again whole [] v.subgroups [] b.fits b.streams b.once,
      count_again whole (length v.subgroups) (flat_map subgroup v.subgroups) b.some,
    )

-- ---- all octets

pub base_again : (v : Endpoint) (octets : List ℕ) → BaseIs v octets → base_of octets ≡ Ok v
unfolding base_of
base_again v octets b = grind (arith, ltb, length, le-ltb, fields_again)

not_long : {A : Type 0} (b : Bool) (r : Result A BaseFault) (x : A) → cond b (Err TooLong) r ≡ Ok x → (b ≡ false) × (r ≡ Ok x)
not_long b r x e = grind arith

pub base_takes : (octets : List ℕ) (v : Endpoint) → IsOctets octets → base_of octets ≡ Ok v → BaseIs v octets
unfolding base_of
base_takes octets v fits e =
    let g = not_long (ltb 252 (length octets)) (fields_of octets) v e in
    let short : length octets ≤ 252 = ltb-false _ _ g.0 in
    let t = fields_take octets v fits g.1 in
    record {
      base = record { delay = t.delay; some = t.some; streams = t.streams; fits = t.fit; once = t.once; small = omega (arith, short, ap length t.encoded) };
      encoded = t.encoded;
    }

pub found_base : (octets : List ℕ) (result : Result Endpoint BaseFault) → IsOctets octets → Answers told result (base_of octets) → IfOk result (λ base. BaseIs base octets)
found_base octets result fits given = grind (arith, base_takes)
