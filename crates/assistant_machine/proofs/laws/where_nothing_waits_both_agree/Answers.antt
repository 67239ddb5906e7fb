use Rattle.assistant_machine.proofs.Agreement.{agrees}
use Rattle.assistant_machine.proofs.laws.where_nothing_waits_both_agree.Goals as goal

pub returns : goal.returns
returns g c = agrees
