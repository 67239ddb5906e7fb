use Rattle.replay_steps.proofs.Prelude.{arith, common_steps}
use Rattle.replay_steps.proofs.line_steps.sink_of.Goals as goal

pub unreachable-requires : goal.unreachable-requires
unreachable-requires c = grind (arith, common_steps)
