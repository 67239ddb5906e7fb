use Rattle.sink_history.proofs.ReadBack.{states_back}
use Rattle.sink_history.proofs.link_laws.states_are_read_back.Goals as goal

pub returns : goal.returns
returns c setup slot calls few are = states_back c.read_is_operation.ensures c.read_is_state.ensures setup slot calls few are
