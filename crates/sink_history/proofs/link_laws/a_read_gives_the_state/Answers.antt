use Rattle.sink_history.proofs.Acts.{value_is}
use Rattle.sink_history.proofs.link_laws.a_read_gives_the_state.Goals as goal

pub returns : goal.returns
returns c = value_is c.read_is_operation.ensures c.read_is_state.ensures
