use Rattle.base_grammar.proofs.Prelude.{◌≡◌, ◌++◌, ◌∷◌, [], length, take, flat_map, number, subgroup}
use Rattle.base_grammar.proofs.writing.put_fields.Given as goal

abbrev pub invariant-loop-subgroup : goal.invariant-loop-subgroup
invariant-loop-subgroup l = l.out ≡ l.fn.out ++ (number 3 l.delay ++ length l.subgroups ∷ []) ++ flat_map subgroup (take l.subgroup-index l.subgroups)
