use Rattle.replay_steps.proofs.Prelude.{arith, steps_of, airs_of}
use Rattle.replay_steps.proofs.machine.Machine.sent_at.Goals as goal

pub returns-in-Ok-clause-some : goal.returns-in-Ok-clause-some
returns-in-Ok-clause-some c starts lines accounts stand = c.in-Ok.ensures.ok (steps_of airs_of lines) stand.stands.sources

pub returns-in-Err-clause-none : goal.returns-in-Err-clause-none
returns-in-Err-clause-none c starts lines accounts stand heard = grind arith
