use Rattle.delegator_history.proofs.GoesOn.{snapshot_goes_on}
use Rattle.delegator_history.proofs.Waiting.{waiting_goes_on}
use Rattle.delegator_history.proofs.laws.a_step_goes_on.Goals as goal

pub returns-clause-snapshot : goal.returns-clause-snapshot
returns-clause-snapshot c setup step steps = snapshot_goes_on setup step steps

pub returns-clause-waiting : goal.returns-clause-waiting
returns-clause-waiting c setup step steps = waiting_goes_on setup step steps
