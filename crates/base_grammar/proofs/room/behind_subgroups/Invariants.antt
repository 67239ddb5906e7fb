use Rattle.base_grammar.proofs.Prelude.{◌≡◌, ◌+◌, length, take, flat_map, subgroup}
use Rattle.base_grammar.proofs.room.behind_subgroups.Given as goal

abbrev pub invariant-loop-subgroup : goal.invariant-loop-subgroup
invariant-loop-subgroup l = l.left + length (flat_map subgroup (take l.subgroup-index l.subgroups)) ≡ l.room
