-- What is read of a BASE is encoded so.
use Rattle.base_grammar.proofs.Prelude.{◌≡◌, ℕ, zero, suc, ◌<◌, ◌≤◌, ◌^◌, Bool, true, false, List, [], ◌∷◌, ◌++◌, length, map, Ok, refl, sym, ap, subst, ◌∙◌, append_assoc, arith, flat_map, AllByRecursion, append-nil, flat_map-cons, octet_in, octets_in, number_in, place_in, Takes, IsOctets, octet, number, counted, IsOctets-prefix, Takes-then, octet_takes, octets_take, number_takes, bind_ok, ok_is, BaseEntry, Subgroup, Endpoint, endpoint, is_lc3, entry, subgroup, encoding, bis_of, indices, stands_in, AreNew, IsConfig, EntryFits, SubgroupFits, HasEntry, subgroups_fault, streams_fault, index_fault, run_fault, ◌>>=◌, field_at, unless, ended}
use Rattle.base_grammar.specs.Reading.{run_at, index_at, entry_at, entries_at, streams_at, subgroup_at, subgroups_at, count_at, fields_of}
use Rattle.base_grammar.proofs.Steps.{field_ok, unless_ok, subgroups_none, streams_none, run_none, index_none}

-- ---- fields

pub run_takes : (whole : List ℕ) (is_list : Bool) (from value rest : List ℕ) → IsOctets from → run_at whole is_list from ≡ Ok (value, rest)
    → Takes from (counted value) rest × IsConfig is_list value
unfolding run_at
run_takes whole is_list from value rest fits e =
    let a = bind_ok (field_at whole from (octet_in from)) _ (value, rest) e in
    let b = bind_ok (field_at whole a.0.1 (octets_in a.0.0 a.0.1)) _ (value, rest) a.2 in
    let g = unless_ok (run_fault (place_in whole a.0.1) is_list b.0.0) b.0 (value, rest) b.2 in
    let count = octet_takes from a.0.0 a.0.1 (field_ok whole from (octet_in from) a.0 a.1) in
    let run = octets_take a.0.0 a.0.1 b.0.0 b.0.1 (field_ok whole a.0.1 (octets_in a.0.0 a.0.1) b.0 b.1) in
    let both = Takes-then from (octet a.0.0) a.0.1 b.0.0 b.0.1 count run.0 in
    let encoded : Takes from (counted b.0.0) b.0.1 = subst (λ (n : ℕ). Takes from (n ∷ b.0.0) b.0.1) (sym run.1) both in
    let run_fits : IsOctets b.0.0 = IsOctets-prefix b.0.0 b.0.1 (subst IsOctets run.0.parts (count.fits fits)) in
    subst (λ (x : List ℕ × List ℕ). Takes from (counted x.0) x.1 × IsConfig is_list x.0) g.1
    (encoded, run_none (place_in whole a.0.1) is_list b.0.0 run_fits g.0)

pub index_takes : (whole before from : List ℕ) (bis : ℕ) (rest : List ℕ) → index_at whole before from ≡ Ok (bis, rest)
    → Takes from (octet bis) rest × ((1 ≤ bis) × (bis ≤ 31) × (stands_in before bis ≡ false))
unfolding index_at
index_takes whole before from bis rest e =
    let a = bind_ok (field_at whole from (octet_in from)) _ (bis, rest) e in
    let g = unless_ok (index_fault (place_in whole from) before a.0.0) a.0 (bis, rest) a.2 in
    let taken = octet_takes from a.0.0 a.0.1 (field_ok whole from (octet_in from) a.0 a.1) in
    subst (λ (x : ℕ × List ℕ). Takes from (octet x.0) x.1 × ((1 ≤ x.0) × (x.0 ≤ 31) × (stands_in before x.0 ≡ false))) g.1
    (taken, index_none (place_in whole from) before a.0.0 g.0)

pub streams_take : (whole from : List ℕ) (count : ℕ) (rest : List ℕ) → streams_at whole from ≡ Ok (count, rest) → Takes from (octet count) rest × (1 ≤ count)
unfolding streams_at
streams_take whole from count rest e =
    grind (arith, bind_ok, field_at, octet_in, unless, streams_fault, place_in, unless_ok, octet_takes, field_ok, octet, streams_none)

pub count_takes : (whole from : List ℕ) (count : ℕ) (rest : List ℕ) → count_at whole from ≡ Ok (count, rest) → Takes from (octet count) rest × (1 ≤ count)
unfolding count_at
count_takes whole from count rest e =
    grind (arith, bind_ok, field_at, octet_in, unless, subgroups_fault, unless_ok, octet_takes, field_ok, octet, subgroups_none)

-- ---- entries

pub record EntryTaken (is_list : Bool) (before from : List ℕ) (e : BaseEntry) (rest : List ℕ) : Type 0 where
  pub taken : Takes from (entry e) rest
  pub fits : EntryFits is_list e
  pub is_new : stands_in before e.bis ≡ false

entry_takes : (whole : List ℕ) (is_list : Bool) (before from : List ℕ) (x : BaseEntry × List ℕ) → IsOctets from → entry_at whole is_list before from ≡ Ok x
    → EntryTaken is_list before from x.0 x.1
unfolding entry_at
entry_takes whole is_list before from x octets e =
    let a = bind_ok (index_at whole before from) _ x e in
    let b = bind_ok (run_at whole is_list a.0.1) _ x a.2 in
    let t0 = index_takes whole before from a.0.0 a.0.1 a.1 in
    let t1 = run_takes whole is_list a.0.1 b.0.0 b.0.1 (t0.0.fits octets) b.1 in
    let made : BaseEntry × List ℕ = (record { bis = a.0.0; config = b.0.0 }, b.0.1) in
    let found : EntryTaken is_list before from made.0 made.1 = grind (arith, octet, counted) in
    subst (λ (y : BaseEntry × List ℕ). EntryTaken is_list before from y.0 y.1) (ok_is made x b.2) found

pub record EntriesTaken (is_list : Bool) (before : List ℕ) (count : ℕ) (from : List ℕ) (es : List BaseEntry) (rest : List ℕ) : Type 0 where
  pub taken : Takes from (flat_map entry es) rest
  pub fit : AllByRecursion (EntryFits is_list) es
  pub many : length es ≡ count
  pub are_new : AreNew before (map bis_of es)

entries_take : (whole : List ℕ) (is_list : Bool) (before : List ℕ) (count : ℕ) (from : List ℕ) (x : List BaseEntry × List ℕ)
    → IsOctets from → entries_at whole is_list before count from ≡ Ok x → EntriesTaken is_list before count from x.0 x.1
unfolding entries_at
entries_take whole is_list before zero from x octets e = grind (arith, ok_is)
entries_take whole is_list before (suc n) from x octets e =
    let a = bind_ok (entry_at whole is_list before from) _ x e in
    let b = bind_ok (entries_at whole is_list (before ++ a.0.0.bis ∷ []) n a.0.1) _ x a.2 in
    let first = entry_takes whole is_list before from a.0 octets a.1 in
    let others = entries_take whole is_list (before ++ a.0.0.bis ∷ []) n a.0.1 b.0 (first.taken.fits octets) b.1 in
    let both = Takes-then from (entry a.0.0) a.0.1 (flat_map entry b.0.0) b.0.1 first.taken others.taken in
    let made : List BaseEntry × List ℕ = (a.0.0 ∷ b.0.0, b.0.1) in
    let found : EntriesTaken is_list before (suc n) from made.0 made.1 = grind (arith, flat_map-cons) in
    subst (λ (y : List BaseEntry × List ℕ). EntriesTaken is_list before (suc n) from y.0 y.1) (ok_is made x b.2) found

-- ---- subgroups

pub record SubgroupTaken (before from : List ℕ) (s : Subgroup) (rest : List ℕ) : Type 0 where
  pub taken : Takes from (subgroup s) rest
  pub fits : SubgroupFits s
  pub some : HasEntry s
  pub are_new : AreNew before (map bis_of s.entries)

subgroup_takes : (whole before from : List ℕ) (x : Subgroup × List ℕ) → IsOctets from → subgroup_at whole before from ≡ Ok x → SubgroupTaken before from x.0 x.1
unfolding subgroup_at
subgroup_takes whole before from x octets e =
    let a = bind_ok (streams_at whole from) _ x e in
    let b = bind_ok (field_at whole a.0.1 (octets_in 5 a.0.1)) _ x a.2 in
    let c = bind_ok (run_at whole (is_lc3 b.0.0) b.0.1) _ x b.2 in
    let d = bind_ok (run_at whole true c.0.1) _ x c.2 in
    let f = bind_ok (entries_at whole (is_lc3 b.0.0) before a.0.0 d.0.1) _ x d.2 in
    let t0 = streams_take whole from a.0.0 a.0.1 a.1 in
    let t1 = octets_take 5 a.0.1 b.0.0 b.0.1 (field_ok whole a.0.1 (octets_in 5 a.0.1) b.0 b.1) in
    let t2 = run_takes whole (is_lc3 b.0.0) b.0.1 c.0.0 c.0.1 (t1.0.fits (t0.0.fits octets)) c.1 in
    let t3 = run_takes whole true c.0.1 d.0.0 d.0.1 (t2.0.fits (t1.0.fits (t0.0.fits octets))) d.1 in
    let t4 = entries_take whole (is_lc3 b.0.0) before a.0.0 d.0.1 f.0 (t3.0.fits (t2.0.fits (t1.0.fits (t0.0.fits octets)))) f.1 in
    let e04 = Takes-then _ _ _ _ _ t0.0 (Takes-then _ _ _ _ _ t1.0 (Takes-then _ _ _ _ _ t2.0 (Takes-then _ _ _ _ _ t3.0 t4.taken))) in
    let made : Subgroup × List ℕ = (record { codec = b.0.0; config = c.0.0; metadata = d.0.0; entries = f.0.0 }, f.0.1) in
    let found : SubgroupTaken before from made.0 made.1 = record {
      taken = subst (λ (n : ℕ). Takes from (n ∷ (b.0.0 ++ (counted c.0.0 ++ (counted d.0.0 ++ flat_map entry f.0.0)))) f.0.1) (sym t4.many) e04;
      fits = record { codec = t1.1; config = t2.1; metadata = t3.1 refl; entries = t4.fit };
      some = omega (arith, t0.1, t4.many);
      are_new = t4.are_new;
    } in
    subst (λ (y : Subgroup × List ℕ). SubgroupTaken before from y.0 y.1) (ok_is made x f.2) found

pub AreNew-then : (before xs ys : List ℕ) → AreNew before xs → AreNew (before ++ xs) ys → AreNew before (xs ++ ys)
AreNew-then before [] ys h g = subst (λ (bs : List ℕ). AreNew bs ys) (append-nil before) g
AreNew-then before (x ∷ xs) ys h g = (h.0, AreNew-then (before ++ x ∷ []) xs ys h.1 (subst (λ (bs : List ℕ). AreNew bs ys) (sym (append_assoc before (x ∷ []) xs)) g))

pub record SubgroupsTaken (before : List ℕ) (count : ℕ) (from : List ℕ) (ss : List Subgroup) (rest : List ℕ) : Type 0 where
  pub taken : Takes from (flat_map subgroup ss) rest
  pub fit : AllByRecursion SubgroupFits ss
  pub streams : AllByRecursion HasEntry ss
  pub many : length ss ≡ count
  pub are_new : AreNew before (indices ss)

subgroups_take : (whole before : List ℕ) (count : ℕ) (from : List ℕ) (x : List Subgroup × List ℕ) → IsOctets from → subgroups_at whole before count from ≡ Ok x
    → SubgroupsTaken before count from x.0 x.1
unfolding subgroups_at
subgroups_take whole before zero from x octets e = grind (arith, ok_is)
subgroups_take whole before (suc n) from x octets e =
    let a = bind_ok (subgroup_at whole before from) _ x e in
    let b = bind_ok (subgroups_at whole (before ++ map bis_of a.0.0.entries) n a.0.1) _ x a.2 in
    let first = subgroup_takes whole before from a.0 octets a.1 in
    let others = subgroups_take whole (before ++ map bis_of a.0.0.entries) n a.0.1 b.0 (first.taken.fits octets) b.1 in
    let both = Takes-then from (subgroup a.0.0) a.0.1 (flat_map subgroup b.0.0) b.0.1 first.taken others.taken in
    let made : List Subgroup × List ℕ = (a.0.0 ∷ b.0.0, b.0.1) in
    let found : SubgroupsTaken before (suc n) from made.0 made.1 = grind (arith, flat_map-cons, subgroup, map, bis_of, AreNew-then, indices) in
    subst (λ (y : List Subgroup × List ℕ). SubgroupsTaken before (suc n) from y.0 y.1) (ok_is made x b.2) found

-- ---- the BASE

ended_ok : {A : Type 0} (whole rest : List ℕ) (x y : A) → ended whole rest x ≡ Ok y → (rest ≡ []) × (x ≡ y)
ended_ok whole rest x y e = grind (arith, ok_is)

pub record FieldsTaken (from : List ℕ) (v : Endpoint) : Type 0 where
  pub delay : v.delay < 2 ^ 24
  pub some : 1 ≤ length v.subgroups
  pub streams : AllByRecursion HasEntry v.subgroups
  pub fit : AllByRecursion SubgroupFits v.subgroups
  pub once : AreNew [] (indices v.subgroups)
  pub encoded : from ≡ encoding v

pub fields_take : (whole : List ℕ) (v : Endpoint) → IsOctets whole → fields_of whole ≡ Ok v → FieldsTaken whole v
unfolding fields_of
fields_take whole v fits e =
    let a = bind_ok (field_at whole whole (number_in 3 whole)) _ v e in
    let b = bind_ok (count_at whole a.0.1) _ v a.2 in
    let c = bind_ok (subgroups_at whole [] b.0.0 b.0.1) _ v b.2 in
    let made : Endpoint = record { delay = a.0.0; subgroups = c.0.0 } in
    let last = ended_ok whole c.0.1 made v c.2 in
    let t0 = number_takes 3 whole a.0.0 a.0.1 fits (field_ok whole whole (number_in 3 whole) a.0 a.1) in
    let t1 = count_takes whole a.0.1 b.0.0 b.0.1 b.1 in
    let t2 = subgroups_take whole [] b.0.0 b.0.1 c.0 (t1.0.fits (t0.0.fits fits)) c.1 in
    let e12 = Takes-then a.0.1 (octet b.0.0) b.0.1 (flat_map subgroup c.0.0) c.0.1 t1.0 t2.taken in
    let e02 = (Takes-then whole (number 3 a.0.0) a.0.1 (b.0.0 ∷ flat_map subgroup c.0.0) c.0.1 t0.0 e12).parts in
    let all : whole ≡ number 3 a.0.0 ++ (b.0.0 ∷ flat_map subgroup c.0.0) =
    e02 ∙ ap (λ (rest : List ℕ). (number 3 a.0.0 ++ (b.0.0 ∷ flat_map subgroup c.0.0)) ++ rest) last.0 ∙ append-nil (number 3 a.0.0 ++ (b.0.0 ∷ flat_map subgroup c.0.0)) in
    let found : FieldsTaken whole made = grind (arith, number, flat_map, subgroup) in
    subst (FieldsTaken whole) last.1 found
