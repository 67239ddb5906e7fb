use Rattle.replay_steps.proofs.Prelude.{arith}
use Rattle.replay_steps.proofs.machine.Machine.choose.Goals as goal

pub returns : goal.returns
returns c boxes version steps stands e = grind arith
