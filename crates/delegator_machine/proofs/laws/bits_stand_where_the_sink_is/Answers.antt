use Rattle.delegator_machine.proofs.Prelude.{◌∙◌, ap, snapshot_of, has_group, steps_of}
use Rattle.delegator_machine.proofs.Where.{both_on}
use Rattle.delegator_machine.proofs.laws.bits_stand_where_the_sink_is.Goals as goal

pub returns-clause-slot : goal.returns-clause-slot
returns-clause-slot c setup calls slot state is set = c.bits_stand_on_the_group.ensures (snapshot_of setup (steps_of calls)) slot state is set

pub returns-clause-receivers : goal.returns-clause-receivers
returns-clause-receivers c setup calls slot state is set =
    both_on setup calls ∙ ap has_group (c.bits_stand_on_the_group.ensures (snapshot_of setup (steps_of calls)) slot state is set)
