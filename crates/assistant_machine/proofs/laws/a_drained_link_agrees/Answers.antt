use Rattle.assistant_machine.proofs.Draining.{drained_agrees}
use Rattle.assistant_machine.proofs.laws.a_drained_link_agrees.Goals as goal

pub returns : goal.returns
returns g c = drained_agrees
