use Rattle.sink_history.proofs.Drains.{is_drained}
use Rattle.sink_history.proofs.link_laws.a_drain_leaves_nothing.Goals as goal

pub returns : goal.returns
returns c = is_drained
