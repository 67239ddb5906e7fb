-- The octets of the state of a slot.
use Rattle.delegator_control.proofs.Prelude.{ℕ, zero, suc, ◌≡◌, ◌+◌, ◌<◌, ◌≤◌, Bool, false, List, [], ◌∷◌, ◌++◌, length, map, drop, slice_get, get_or, Some, append_assoc, refl, sym, ap, ◌∙◌, arith, nat_lt, flat_map, list_any, AllByRecursion, append-nil, Wish, Field, laid, Subgroup, subgroup, subgroup_fields, fields_of, prefix_fields, group_of, encoding, Entry, Place, idle, on_train, on_group, is_on, is_on_group, Status, groups_from, received, status_of, is_synced, drop_get, groups_laid}
use Rattle.std.proofs.lemmas.Grind.{flat_map-append}
use Rattle.bcast_base.proofs.Citable.{subgroup_laid}
use Rattle.bcast_base.specs.Encoding.{number}

length-groups : (place : ℕ) (bits : List ℕ) (wishes : List Wish) → length (map group_of (groups_from place bits wishes)) ≡ length wishes
length-groups place bits [] = refl
length-groups place bits (wish ∷ wishes) = ap (λ n. suc n) (length-groups (place + 1) bits wishes)

-- the octets of a state: those before its subgroups, and those of the subgroups
pub in_two : (status : Status) (entry : Entry) → laid (prefix_fields (fields_of (received status entry)) (length entry.wanted.wishes)) ++ groups_laid 0 status.bits entry.wanted.wishes
    ≡ encoding (received status entry)
in_two status entry =
    let state = received status entry in
    let groups : List Subgroup = map group_of state.groups in
    sym (flat_map-append (λ (field : Field). field.octets) (prefix_fields (fields_of state) (length entry.wanted.wishes)) (flat_map subgroup_fields groups))
    ∙ ap (λ n. laid (prefix_fields (fields_of state) n ++ flat_map subgroup_fields groups)) (sym (length-groups 0 status.bits entry.wanted.wishes))

-- the octets of the first subgroup, and those behind it
first_laid : (place : ℕ) (bits : List ℕ) (wish : Wish) (rest : List Wish)
    → groups_laid place bits (wish ∷ rest) ≡ subgroup (record { bits = get_or bits place 0; metadata = wish.metadata }) ++ groups_laid (place + 1) bits rest
first_laid place bits wish rest =
    let group : Subgroup = record { bits = get_or bits place 0; metadata = wish.metadata } in
    flat_map-append (λ (field : Field). field.octets) (subgroup_fields group) (flat_map subgroup_fields (map group_of (groups_from (place + 1) bits rest)))
    ∙ ap (λ (octets : List ℕ). octets ++ groups_laid (place + 1) bits rest) (subgroup_laid group)

-- the octets of the subgroup at this place, and those behind it
pub one_laid : (place : ℕ) (bits : List ℕ) (wishes : List Wish) (wish : Wish) → slice_get wishes place ≡ Some wish
    → groups_laid place bits (drop place wishes)
    ≡ subgroup (record { bits = get_or bits place 0; metadata = wish.metadata }) ++ groups_laid (place + 1) bits (drop (place + 1) wishes)
one_laid place bits wishes wish is = ap (groups_laid place bits) (drop_get wishes place wish is) ∙ first_laid place bits wish (drop (place + 1) wishes)

-- they end with the metadata of the last, behind the octet that counts it
last_laid : (place : ℕ) (bits : List ℕ) (wishes : List Wish) (n : ℕ) (wish : Wish) → suc n ≡ length wishes → slice_get wishes n ≡ Some wish
    → (prefix : List ℕ) × (groups_laid place bits wishes ≡ prefix ++ length wish.metadata ∷ wish.metadata)
last_laid place bits [] n wish many is = absurd cc
last_laid place bits (first ∷ []) zero wish many is =
    let same : first ≡ wish = cc in
    let prefix : List ℕ = number 4 (get_or bits place 0) in (
      prefix,
      grind (arith, groups_laid, first_laid, append-nil, subgroup, get_or, append_assoc, length),
    )
last_laid place bits (first ∷ []) (suc n) wish many is = absurd cc
last_laid place bits (first ∷ second ∷ wishes) zero wish many is = absurd cc
last_laid place bits (first ∷ second ∷ wishes) (suc n) wish many is =
    let fewer : suc n ≡ length (second ∷ wishes) = cc in
    let others = last_laid (place + 1) bits (second ∷ wishes) n wish fewer is in
    let group : List ℕ = subgroup (record { bits = get_or bits place 0; metadata = first.metadata }) in (
      group ++ others.0,
      first_laid place bits first (second ∷ wishes) ∙ ap (λ octets. group ++ octets) others.1 ∙ sym (append_assoc group others.0 (length wish.metadata ∷ wish.metadata)),
    )

pub ends_so : (status : Status) (entry : Entry) (n : ℕ) (wish : Wish) → suc n ≡ length entry.wanted.wishes → slice_get entry.wanted.wishes n ≡ Some wish
    → (prefix : List ℕ) × (encoding (received status entry) ≡ prefix ++ length wish.metadata ∷ wish.metadata)
ends_so status entry n wish many is =
    let prefix : List ℕ = laid (prefix_fields (fields_of (received status entry)) (length entry.wanted.wishes)) in
    let groups = last_laid 0 status.bits entry.wanted.wishes n wish many is in
    (prefix ++ groups.0, sym (in_two status entry) ∙ ap (λ octets. prefix ++ octets) groups.1 ∙ sym (append_assoc prefix groups.0 (length wish.metadata ∷ wish.metadata)))

pub metadata_at : (wishes : List Wish) (place : ℕ) (wish : Wish) → AllByRecursion (λ wish. length wish.metadata ≤ 255) wishes → slice_get wishes place ≡ Some wish
    → length wish.metadata < 256
metadata_at [] place wish all is = absurd cc
metadata_at (first ∷ wishes) zero wish all is = grind (arith, length)
metadata_at (first ∷ wishes) (suc place) wish all is = metadata_at wishes place wish all.1 is

-- ---- synchronised to, as a test of the state, is to be on the train or the group

no_bit : (place : ℕ) (wishes : List Wish) → list_any (λ group. nat_lt 0 group.bis_sync_state) (groups_from place [] wishes) ≡ false
no_bit place [] = refl
no_bit place (wish ∷ wishes) = no_bit (place + 1) wishes

pub off_group : (place : Place) (slot : ℕ) → is_on place slot ≡ false → is_on_group place slot ≡ false
off_group idle slot off = refl
off_group (on_train other) slot off = refl
off_group (on_group other) slot off = off

pub synced_is_on : (place : Place) (encrypted : Bool) (taken : List ℕ) (slot : ℕ) (entry : Entry)
    → is_synced (Some (received (status_of place encrypted taken slot) entry)) ≡ is_on place slot
synced_is_on place encrypted taken slot entry = grind (arith, list_any, nat_lt, groups_from, no_bit, is_on, is_on_group, off_group)
