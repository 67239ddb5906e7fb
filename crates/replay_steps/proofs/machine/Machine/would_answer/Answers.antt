use Rattle.replay_steps.proofs.Prelude.{steps_of, airs_of, histories_of}
use Rattle.replay_steps.proofs.machine.Machine.would_answer.Goals as goal

pub returns : goal.returns
returns c starts lines accounts stand = c.would_answer.ensures (histories_of (steps_of airs_of lines)) stand.stands.sinks
