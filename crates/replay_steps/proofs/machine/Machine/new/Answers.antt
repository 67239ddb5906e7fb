use Rattle.replay_steps.proofs.Prelude.{arith}
use Rattle.replay_steps.proofs.LineLaws.{nothing_handed}
use Rattle.replay_steps.proofs.machine.Machine.new.Goals as goal

pub returns : goal.returns
returns c starts = grind (arith, nothing_handed)
