use Rattle.replay_steps.proofs.Prelude.{airs_of, steps_of, histories_of}
use Rattle.replay_steps.proofs.machine.Machine.state_of.Goals as goal

pub returns : goal.returns
returns c starts lines accounts stands = c.state.ensures (histories_of (steps_of airs_of lines)) stands.stands.sinks
