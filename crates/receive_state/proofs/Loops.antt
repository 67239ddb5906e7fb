-- Subgroups looked through one after the other, as a loop does.
use Rattle.receive_state.proofs.Prelude.{◌≡◌, ℕ, zero, suc, ◌+◌, ◌-◌, ◌<◌, ◌≤◌, Bool, true, cond, ltb, List, [], ◌∷◌, ◌++◌, length, take, drop, map, Option, Some, None, is_some, Result, Ok, Err, refl, sym, ap, ◌∙◌, append_assoc, arith, append-nil, sum_from, octet_in, octets_in, number_in, counted_in, place_in, some_is, bind_ok, needed_ok, ok_is, Subgroup, GroupState, group_end_in, groups_of, states_of, state_of_group, ◌>>=◌, needed, field_in}
use Rattle.std.proofs.lemmas.Option.{some_pair_parts}
use Rattle.bcast_base.specs.Subgroups.{subgroup_in, subgroups_in}
use Rattle.receive_state.proofs.Parts.{joined, subgroup_parts, subgroup_made, subgroups_suc, subgroups_none, subgroups_parts}
use Rattle.receive_state.specs.Reading.{end_in}

one_left : (count i : ℕ) → i < count → count - i ≡ suc (count - (i + 1))
one_left count i lt = omega arith

-- ---- the end of the subgroups

end_suc : (whole : List ℕ) (n : ℕ) (from : List ℕ) (read : Result (List ℕ) ℕ) → group_end_in whole from ≡ read → end_in whole (suc n) from ≡ (read >>= λ rest. end_in whole n rest)
unfolding end_in
end_suc whole n from read e = ap (λ (r : Result (List ℕ) ℕ). r >>= λ rest. end_in whole n rest) e

pub end_next : (whole : List ℕ) (count i : ℕ) (from after : List ℕ) (total : Result (List ℕ) ℕ) → i < count → group_end_in whole from ≡ Ok after → end_in whole (count - i) from ≡ total
    → end_in whole (count - (i + 1)) after ≡ total
end_next whole count i from after total lt e so_far = grind (arith, one_left, end_suc)

pub end_short : (whole : List ℕ) (count i : ℕ) (from : List ℕ) (place : ℕ) (total : Result (List ℕ) ℕ) → i < count → group_end_in whole from ≡ Err place
    → end_in whole (count - i) from ≡ total → total ≡ Err place
end_short whole count i from place total lt e so_far = grind (arith, one_left, end_suc)

end_zero : (whole : List ℕ) (n : ℕ) (rest : List ℕ) → n ≡ 0 → end_in whole n rest ≡ Ok rest
unfolding end_in
end_zero whole n rest e = rw e refl

pub end_done : (whole : List ℕ) (count i : ℕ) (rest : List ℕ) (total : Result (List ℕ) ℕ) → count ≤ i → end_in whole (count - i) rest ≡ total → total ≡ Ok rest
end_done whole count i rest total le so_far = grind (arith, end_zero)

-- ---- what is told of the subgroups

-- the states so far, and those that are read behind them
abbrev pub with_prefix : List GroupState → Option (List GroupState) → Option (List GroupState)
with_prefix prefix None = None
with_prefix prefix (Some states) = Some (prefix ++ states)

regroup : (prefix : List GroupState) (group : Subgroup) (read : Option (List Subgroup × List ℕ))
    → with_prefix prefix (states_of (joined group read)) ≡ with_prefix (prefix ++ state_of_group group ∷ []) (states_of read)
regroup prefix group read = grind (arith, append_assoc, state_of_group, map)

pub read_next : (prefix : List GroupState) (count i : ℕ) (from : List ℕ) (group : Subgroup) (after : List ℕ) (total : Option (List GroupState)) → i < count → subgroup_in from ≡ Some (group, after)
    → with_prefix prefix (groups_of (count - i) from) ≡ total → with_prefix (prefix ++ state_of_group group ∷ []) (groups_of (count - (i + 1)) after) ≡ total
read_next prefix count i from group after total lt e so_far =
    sym (grind (arith, one_left count i lt, subgroups_suc (count - (i + 1)) from group after e, regroup prefix group (subgroups_in (count - (i + 1)) after))) ∙ so_far

pub read_never : (prefix : List GroupState) (count i : ℕ) (from octets : List ℕ) → i < count → subgroup_in from ≡ None
    → with_prefix prefix (groups_of (count - i) from) ≡ groups_of count octets → is_some (subgroups_in count octets) ≡ true → ⊥
read_never prefix count i from octets lt e so_far some = grind (arith, groups_of, one_left, states_of, subgroups_none, is_some)

nothing_left : (prefix : List GroupState) (n : ℕ) (rest : List ℕ) → n ≡ 0 → with_prefix prefix (groups_of n rest) ≡ Some prefix
unfolding subgroups_in
nothing_left prefix n rest e = rw e (ap (λ (gs : List GroupState). Some gs) (append-nil prefix))

pub read_end : (prefix : List GroupState) (count i : ℕ) (rest : List ℕ) (total : Option (List GroupState)) → count ≤ i → with_prefix prefix (groups_of (count - i) rest) ≡ total → total ≡ Some prefix
read_end prefix count i rest total le so_far = grind (arith, nothing_left)

-- ---- subgroups are whole exactly where their end is found

abbrev pub done : {A : Type 0} → A → Result A ℕ
done x = Ok x

encoded : (b : Bool) (value rest v r : List ℕ) → cond {A = Option (List ℕ × List ℕ)} b None (Some (value, rest)) ≡ Some (v, r)
    → cond {A = Option (ℕ × List ℕ)} b None (Some (sum_from 0 value, rest)) ≡ Some (sum_from 0 v, r)
encoded b value rest v r e = grind (arith, some_pair_parts, sum_from)

number_read : (k : ℕ) (from value rest : List ℕ) → octets_in k from ≡ Some (value, rest) → number_in k from ≡ Some (sum_from 0 value, rest)
number_read k from value rest e = encoded (ltb (length from) k) (take k from) (drop k from) value rest e

counted_read : (from : List ℕ) (count : ℕ) (after value rest : List ℕ) → octet_in from ≡ Some (count, after) → octets_in count after ≡ Some (value, rest) → counted_in from ≡ Some (value, rest)
counted_read from count after value rest e f = grind (arith, some_pair_parts, octets_in)

group_read : (whole from rest : List ℕ) → group_end_in whole from ≡ Ok rest → (group : Subgroup) × (subgroup_in from ≡ Some (group, rest))
group_read whole from rest e =
    let a = bind_ok (field_in whole (octets_in 4) from) (λ bits. field_in whole octet_in bits.1 >>= λ count. field_in whole (octets_in count.0) count.1 >>= λ metadata. Ok metadata.1) rest e in
    let b = bind_ok (field_in whole octet_in a.0.1) (λ count. field_in whole (octets_in count.0) count.1 >>= λ metadata. Ok metadata.1) rest a.2 in
    let d = bind_ok (field_in whole (octets_in b.0.0) b.0.1) (λ metadata. Ok metadata.1) rest b.2 in
    let bits = number_read 4 from a.0.0 a.0.1 (needed_ok (place_in whole from) (octets_in 4 from) a.0 a.1) in
    let metadata = counted_read a.0.1 b.0.0 b.0.1 d.0.0 d.0.1 (needed_ok (place_in whole a.0.1) (octet_in a.0.1) b.0 b.1) (needed_ok (place_in whole b.0.1) (octets_in b.0.0 b.0.1) d.0 d.1) in
    let end : d.0.1 ≡ rest = ok_is d.0.1 rest d.2 in
    let group : Subgroup = record { bits = sum_from 0 a.0.0; metadata = d.0.0 } in
    (group, subgroup_made from (sum_from 0 a.0.0) a.0.1 d.0.0 d.0.1 bits metadata ∙ ap (λ (r : List ℕ). Some (group, r)) end)

pub groups_read : (whole : List ℕ) (count : ℕ) (from rest : List ℕ) → end_in whole count from ≡ Ok rest → (groups : List Subgroup) × (subgroups_in count from ≡ Some (groups, rest))
unfolding end_in subgroups_in
groups_read whole zero from rest e = ([], ap (λ (r : List ℕ). Some ([], r)) (ok_is from rest e))
groups_read whole (suc count) from rest e =
    let a = bind_ok (group_end_in whole from) (λ after. end_in whole count after) rest e in
    let g = group_read whole from a.0 a.1 in
    let gs = groups_read whole count a.0 rest a.2 in
    (g.0 ∷ gs.0, subgroups_suc count from g.0 a.0 g.1 ∙ ap (joined g.0) gs.1)

told : (b : Bool) (value rest : List ℕ) (n : ℕ) (r : List ℕ) → cond {A = Option (ℕ × List ℕ)} b None (Some (sum_from 0 value, rest)) ≡ Some (n, r)
    → cond {A = Option (List ℕ × List ℕ)} b None (Some (value, rest)) ≡ Some (value, r)
told b value rest n r e = grind (arith, some_pair_parts, sum_from)

group_told : (whole from : List ℕ) (group : Subgroup) (rest : List ℕ) → subgroup_in from ≡ Some (group, rest) → group_end_in whole from ≡ Ok rest
group_told whole from group rest e =
    grind (arith, subgroup_parts, octets_in, take, told, ltb, length, drop, needed, place_in, field_in, octet_in)

pub groups_told : (whole : List ℕ) (count : ℕ) (from : List ℕ) (groups : List Subgroup) (rest : List ℕ) → subgroups_in count from ≡ Some (groups, rest) → end_in whole count from ≡ Ok rest
unfolding end_in subgroups_in
groups_told whole zero from groups rest e = grind (arith, some_is)
groups_told whole (suc count) from groups rest e =
    let p = subgroups_parts count from groups rest e in
    end_suc whole count from (Ok p.1) (group_told whole from p.0 p.1 p.3) ∙ groups_told whole count p.1 p.2 rest p.4
