use Rattle.receive_state.proofs.Prelude.{◌≡◌, ◌++◌, take, map, flat_map, AllByRecursion, laid, Fits, subgroup_fields, group_of}
use Rattle.receive_state.proofs.writing.put_groups.Given as goal

abbrev pub invariant-loop-group : goal.invariant-loop-group
invariant-loop-group l = (l.out ≡ l.initial.out ++ laid (flat_map subgroup_fields (map group_of (take l.group-index l.groups)))) × AllByRecursion Fits (map group_of (take l.group-index l.groups))
