use Rattle.delegator_machine.proofs.Where.{both_on, where_it_is}
use Rattle.delegator_machine.proofs.laws.the_sink_is_where_its_steps_put_it.Goals as goal

pub returns-clause-both : goal.returns-clause-both
returns-clause-both c setup calls = both_on setup calls

pub returns-clause-group : goal.returns-clause-group
returns-clause-group c setup calls = where_it_is setup calls
