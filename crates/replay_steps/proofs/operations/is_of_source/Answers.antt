use Rattle.replay_steps.proofs.Prelude.{arith}
use Rattle.replay_steps.proofs.Operating.{of_source}
use Rattle.replay_steps.proofs.operations.is_of_source.Goals as goal

pub returns : goal.returns
returns c op is two = of_source c.args.octets.now op is (omega arith)
