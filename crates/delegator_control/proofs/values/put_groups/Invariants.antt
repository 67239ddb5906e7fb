use Rattle.delegator_control.proofs.Prelude.{◌≡◌, ◌++◌, drop, groups_laid}
use Rattle.delegator_control.proofs.values.put_groups.Given as goal

abbrev pub invariant-subgroups : goal.invariant-subgroups
invariant-subgroups l = l.out ++ groups_laid l.place l.bits (drop l.place l.wishes) ≡ l.initial.out ++ groups_laid 0 l.bits l.wishes
