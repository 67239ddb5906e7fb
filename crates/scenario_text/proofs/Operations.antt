-- How many octets an operation has.
use Rattle.scenario_text.proofs.Prelude.{◌≡◌, ◌+◌, List, [], ◌∷◌, ◌++◌, length, refl, arith, flat_map, laid, subgroup_fields, number-length, Wish, AddSource, ModifySource, Add, Modify, group_of, encoding, wishes_octets, length-append}
use Rattle.bcast_base.specs.Encoding.{number}

wishes_length : (wishes : List Wish) → length (laid (flat_map (λ wish. subgroup_fields (group_of wish)) wishes)) ≡ wishes_octets wishes
wishes_length [] = refl
wishes_length (wish ∷ wishes) =
    let rest = wishes_length wishes in
    let bits = number-length 4 wish.bis_sync in
    let whole = length-append (number 4 wish.bis_sync) (length wish.metadata ∷ (wish.metadata ++ laid (flat_map (λ w. subgroup_fields (group_of w)) wishes))) in
    let metadata = length-append wish.metadata (laid (flat_map (λ w. subgroup_fields (group_of w)) wishes)) in
    omega (arith, rest, bits, whole, metadata)

pub add_length : (op : AddSource) → length op.address ≡ 6 → length op.broadcast_id ≡ 3 → length (encoding (Add op)) ≡ 16 + wishes_octets op.wishes
add_length op address broadcast_id =
    grind (arith, wishes_length, laid, flat_map, subgroup_fields, group_of, length-append, length, number-length)

pub modify_length : (op : ModifySource) → length (encoding (Modify op)) ≡ 6 + wishes_octets op.wishes
modify_length op = grind (arith, wishes_length, laid, flat_map, subgroup_fields, group_of, length-append, length, number-length)
