-- Reading entries and subgroups one after the other, as a loop does.
use Rattle.base_grammar.proofs.Prelude.{◌≡◌, ℕ, suc, ◌-◌, ◌+◌, ◌≤◌, ◌<◌, Bool, List, [], ◌∷◌, ◌++◌, length, map, Option, Result, Ok, Err, sym, ap, ◌∙◌, append_assoc, arith, append-nil, map_push, flat_map-cons, BaseFault, BaseEntry, Subgroup, bis_of, indices, ◌>>=◌, FindsOrWants, told}
use Rattle.std.proofs.lemmas.Grind.{flat_map-append}
use Rattle.base_grammar.specs.Reading.{entry_at, entries_at, subgroup_at, subgroups_at}

-- what was read before, and what is still read
abbrev pub with_prefix : {A : Type 0} → List A → Result (List A × List ℕ) BaseFault → Result (List A × List ℕ) BaseFault
with_prefix prefix read = read >>= λ x. Ok (prefix ++ x.0, x.1)

pub failed : {A B : Type 0} (found : Option BaseFault) (one : Result A BaseFault) (total : Result B BaseFault) → ((f : BaseFault) → one ≡ Err f → total ≡ Err f)
    → FindsOrWants found one → FindsOrWants found total
failed found one total h e = grind arith

regroup : {A : Type 0} (prefix : List A) (x : A) (read : Result (List A × List ℕ) BaseFault) → with_prefix prefix (read >>= λ y. Ok (x ∷ y.0, y.1)) ≡ with_prefix (prefix ++ x ∷ []) read
regroup prefix x read = grind (arith, append_assoc)

done : {A : Type 0} (prefix : List A) (rest : List ℕ) (read : Result (List A × List ℕ) BaseFault) → read ≡ Ok ([], rest) → with_prefix prefix read ≡ Ok (prefix, rest)
done prefix rest read e = ap (with_prefix prefix) e ∙ ap (λ (xs : List _). Ok (xs, rest)) (append-nil prefix)

-- ---- entries

-- the entries so far, and what is read of the others
pub record Entering (whole : List ℕ) (is_list : Bool) (before : List ℕ) (count : ℕ) (from : List ℕ) (entries : List BaseEntry) (i : ℕ) (rest : List ℕ) : Type 0 where
  pub shorter : length rest ≤ length from
  pub same : with_prefix entries (entries_at whole is_list (before ++ map bis_of entries) (count - i) rest) ≡ entries_at whole is_list before count from

pub entering_next : (whole : List ℕ) (is_list : Bool) (before : List ℕ) (count : ℕ) (from : List ℕ) (entries : List BaseEntry) (i : ℕ) (rest : List ℕ) (e : BaseEntry) (after : List ℕ)
    → i < count → entry_at whole is_list (before ++ map bis_of entries) rest ≡ Ok (e, after) → length after ≤ length rest → Entering whole is_list before count from entries i rest
    → Entering whole is_list before count from (entries ++ e ∷ []) (i + 1) after
unfolding entries_at
entering_next whole is_list before count from entries i rest e after lt read h s =
    let k : count - i ≡ suc (count - (i + 1)) = omega arith in
    let there : (before ++ map bis_of entries) ++ e.bis ∷ [] ≡ before ++ map bis_of (entries ++ e ∷ []) =
    append_assoc before (map bis_of entries) (e.bis ∷ []) ∙ ap (λ (bs : List ℕ). before ++ bs) (sym (map_push bis_of entries e)) in
    let one : with_prefix entries (entries_at whole is_list (before ++ map bis_of entries) (count - i) rest)
    ≡ with_prefix (entries ++ e ∷ []) (entries_at whole is_list ((before ++ map bis_of entries) ++ e.bis ∷ []) (count - (i + 1)) after) =
    rw (k, read) (regroup entries e (entries_at whole is_list ((before ++ map bis_of entries) ++ e.bis ∷ []) (count - (i + 1)) after)) in
    record {
      shorter = omega (arith, h, s.shorter);
      same = ap (λ (bs : List ℕ). with_prefix (entries ++ e ∷ []) (entries_at whole is_list bs (count - (i + 1)) after)) (sym there) ∙ sym one ∙ s.same;
    }

pub entering_err : (f : BaseFault) (whole : List ℕ) (is_list : Bool) (before : List ℕ) (count : ℕ) (from : List ℕ) (entries : List BaseEntry) (i : ℕ) (rest : List ℕ)
    → i < count → entry_at whole is_list (before ++ map bis_of entries) rest ≡ Err f → Entering whole is_list before count from entries i rest
    → entries_at whole is_list before count from ≡ Err f
unfolding entries_at
entering_err f whole is_list before count from entries i rest lt e s = grind (arith, map, bis_of)

pub entering_failed : (fault : BaseFault) (whole : List ℕ) (is_list : Bool) (before : List ℕ) (count : ℕ) (from : List ℕ) (entries : List BaseEntry) (i : ℕ) (rest : List ℕ)
    → i < count → FindsOrWants (told fault) (entry_at whole is_list (before ++ map bis_of entries) rest) → Entering whole is_list before count from entries i rest
    → FindsOrWants (told fault) (entries_at whole is_list before count from)
entering_failed fault whole is_list before count from entries i rest lt read s =
    failed (told fault) (entry_at whole is_list (before ++ map bis_of entries) rest) (entries_at whole is_list before count from)
    (λ f e. entering_err f whole is_list before count from entries i rest lt e s) read

pub entering_done : (whole : List ℕ) (is_list : Bool) (before : List ℕ) (count : ℕ) (from : List ℕ) (entries : List BaseEntry) (i : ℕ) (rest : List ℕ)
    → count ≤ i → Entering whole is_list before count from entries i rest → entries_at whole is_list before count from ≡ Ok (entries, rest)
unfolding entries_at
entering_done whole is_list before count from entries i rest le s = grind (arith, done, map, bis_of)

-- ---- subgroups

-- the subgroups so far, and what is read of the others
pub record Grouping (whole : List ℕ) (count : ℕ) (from : List ℕ) (subgroups : List Subgroup) (i : ℕ) (rest : List ℕ) : Type 0 where
  pub shorter : length rest ≤ length from
  pub same : with_prefix subgroups (subgroups_at whole (indices subgroups) (count - i) rest) ≡ subgroups_at whole [] count from

pub indices-push : (subgroups : List Subgroup) (s : Subgroup) → indices (subgroups ++ s ∷ []) ≡ indices subgroups ++ map bis_of s.entries
indices-push subgroups s = grind (arith, flat_map-append, map, bis_of, indices, flat_map-cons, append-nil)

pub grouping_next : (whole : List ℕ) (count : ℕ) (from : List ℕ) (subgroups : List Subgroup) (i : ℕ) (rest : List ℕ) (s : Subgroup) (after : List ℕ)
    → i < count → subgroup_at whole (indices subgroups) rest ≡ Ok (s, after) → length after ≤ length rest → Grouping whole count from subgroups i rest
    → Grouping whole count from (subgroups ++ s ∷ []) (i + 1) after
unfolding subgroups_at
grouping_next whole count from subgroups i rest s after lt read h g =
    let k : count - i ≡ suc (count - (i + 1)) = omega arith in
    let one : with_prefix subgroups (subgroups_at whole (indices subgroups) (count - i) rest)
    ≡ with_prefix (subgroups ++ s ∷ []) (subgroups_at whole (indices subgroups ++ map bis_of s.entries) (count - (i + 1)) after) =
    rw (k, read) (regroup subgroups s (subgroups_at whole (indices subgroups ++ map bis_of s.entries) (count - (i + 1)) after)) in
    record {
      shorter = omega (arith, h, g.shorter);
      same = ap (λ (bs : List ℕ). with_prefix (subgroups ++ s ∷ []) (subgroups_at whole bs (count - (i + 1)) after)) (indices-push subgroups s) ∙ sym one ∙ g.same;
    }

pub grouping_err : (f : BaseFault) (whole : List ℕ) (count : ℕ) (from : List ℕ) (subgroups : List Subgroup) (i : ℕ) (rest : List ℕ)
    → i < count → subgroup_at whole (indices subgroups) rest ≡ Err f → Grouping whole count from subgroups i rest → subgroups_at whole [] count from ≡ Err f
unfolding subgroups_at
grouping_err f whole count from subgroups i rest lt e g = grind (arith, indices)

pub grouping_failed : (fault : BaseFault) (whole : List ℕ) (count : ℕ) (from : List ℕ) (subgroups : List Subgroup) (i : ℕ) (rest : List ℕ)
    → i < count → FindsOrWants (told fault) (subgroup_at whole (indices subgroups) rest) → Grouping whole count from subgroups i rest → FindsOrWants (told fault) (subgroups_at whole [] count from)
grouping_failed fault whole count from subgroups i rest lt read g =
    failed (told fault) (subgroup_at whole (indices subgroups) rest) (subgroups_at whole [] count from)
    (λ f e. grouping_err f whole count from subgroups i rest lt e g) read

pub grouping_done : (whole : List ℕ) (count : ℕ) (from : List ℕ) (subgroups : List Subgroup) (i : ℕ) (rest : List ℕ)
    → count ≤ i → Grouping whole count from subgroups i rest → subgroups_at whole [] count from ≡ Ok (subgroups, rest)
unfolding subgroups_at
grouping_done whole count from subgroups i rest le g = grind (arith, done, indices)
