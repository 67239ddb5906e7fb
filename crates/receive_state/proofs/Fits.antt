-- Which states have an encoding.
use Rattle.receive_state.proofs.Prelude.{◌≡◌, ◌≤◌, ◌<◌, ◌^◌, ℕ, suc, Bool, true, false, cond, ltb, leb, List, [], ◌∷◌, length, map, Some, refl, ap, arith, ◌&&◌, ◌||◌, not, flat_map, list_all, AllByRecursion, NoneReserved, Fits, subgroup_fields, is_reserved, Encryption, GroupState, ReceiveState, fields_of, group_of, number_of, encoding, group_is_encoded, is_encoded, HasEncoding, HasTypes, StateIs, leb-true, le-leb}

length-groups : (groups : List GroupState) → length (map group_of groups) ≡ length groups
length-groups [] = refl
length-groups (group ∷ groups) = ap (λ n. suc n) (length-groups groups)

metadata_fits : (groups : List GroupState) → AllByRecursion Fits (map group_of groups) → AllByRecursion (λ group. length group.metadata ≤ 255) groups
metadata_fits [] h = tt
metadata_fits (group ∷ groups) h = (omega (arith, h.0.metadata), metadata_fits groups h.1)

groups_fit : (groups : List GroupState) → AllByRecursion (λ group. group.bis_sync_state < 2 ^ 32) groups → AllByRecursion (λ group. length group.metadata ≤ 255) groups
    → AllByRecursion Fits (map group_of groups)
groups_fit [] b m = tt
groups_fit (group ∷ groups) b m = (record { bits = b.0; metadata = omega (arith, m.0) }, groups_fit groups b.1 m.1)

pub has_octets : (state : ReceiveState) → HasTypes state → HasEncoding state → (octets : List ℕ) × StateIs (Some state) octets
has_octets state t h = grind (arith, length, map, group_of, length-groups, fields_of, groups_fit, encoding)

pub octets_fit : (state : ReceiveState) → ((octets : List ℕ) × StateIs (Some state) octets) → HasEncoding state
octets_fit state s = grind (arith, length-groups, metadata_fits)

-- ---- the same as a test

both : (a b : Bool) → (not a && b) ≡ true → (a ≡ false) × (b ≡ true)
both a b e = grind arith

both_so : (a b : Bool) → a ≡ false → b ≡ true → (not a && b) ≡ true
both_so a b e f = grind arith

and_parts : (a b : Bool) → (a && b) ≡ true → (a ≡ true) × (b ≡ true)
and_parts a b e = grind arith

and_so : (a b : Bool) → a ≡ true → b ≡ true → (a && b) ≡ true
and_so a b e f = grind arith

parts : (a b c d : Bool) → cond (a || b || c) false d ≡ true → (a ≡ false) × (b ≡ false) × (c ≡ false) × (d ≡ true)
parts a b c d e = grind arith

parts_so : (a b c d : Bool) → a ≡ false → b ≡ false → c ≡ false → d ≡ true → cond (a || b || c) false d ≡ true
parts_so a b c d e f g h = grind arith

groups_values : (groups : List GroupState) → list_all group_is_encoded groups ≡ true
    → AllByRecursion (λ group. length group.metadata ≤ 255) groups × NoneReserved (flat_map subgroup_fields (map group_of groups))
groups_values [] e = (tt, tt)
groups_values (group ∷ groups) e =
    let a = and_parts (group_is_encoded group) (list_all group_is_encoded groups) e in
    let b = both (is_reserved group.bis_sync_state) (leb (length group.metadata) 255) a.0 in
    let r = groups_values groups a.1 in
    ((leb-true (length group.metadata) 255 b.1, r.0), (b.0, (refl, (refl, r.1))))

groups_pass : (groups : List GroupState) → AllByRecursion (λ group. length group.metadata ≤ 255) groups → NoneReserved (flat_map subgroup_fields (map group_of groups))
    → list_all group_is_encoded groups ≡ true
groups_pass [] m v = refl
groups_pass (group ∷ groups) m v =
    and_so (group_is_encoded group) (list_all group_is_encoded groups)
    (both_so (is_reserved group.bis_sync_state) (leb (length group.metadata) 255) v.0 (le-leb (length group.metadata) 255 m.0))
    (groups_pass groups m.1 v.1.1.1)

number_known : (encryption : Encryption) → ltb 3 (number_of encryption) ≡ false
number_known encryption = grind arith

pub test_tells : (state : ReceiveState) → is_encoded state ≡ true → HasEncoding state
test_tells state e =
    let p = parts (ltb 1 state.address_type) (ltb 15 state.sid) (ltb 4 state.pa_sync_state) (leb (length state.groups) 255 && list_all group_is_encoded state.groups) e in
    let a = and_parts (leb (length state.groups) 255) (list_all group_is_encoded state.groups) p.3 in
    let g = groups_values state.groups a.1 in
    record {
      few = leb-true (length state.groups) 255 a.0;
      metadata = g.0;
      values = (refl, (p.0, (refl, (p.1, (refl, (p.2, (number_known state.encryption, (refl, (refl, g.1)))))))));
    }

pub test_passes : (state : ReceiveState) → HasEncoding state → is_encoded state ≡ true
test_passes state h = grind (arith, parts_so, ltb, leb, length, list_all, group_is_encoded, and_so, le-leb, groups_pass)
