use Rattle.delegator_control.proofs.Prelude.{◌∙◌}
use Rattle.delegator_control.proofs.values.put_groups.Goals as goal

pub subgroups-preserved : goal.subgroups-preserved
subgroups-preserved c = c.in_ok-put_group.ensures ∙ c.subgroups.invariant
