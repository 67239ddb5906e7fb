use Rattle.sink_history.proofs.Telling.{tells}
use Rattle.sink_history.proofs.link_laws.a_step_notifies_each_link.Goals as goal

pub returns : goal.returns
returns c = tells
