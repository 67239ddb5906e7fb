use Rattle.multi_source.proofs.Prelude.{arith}
use Rattle.multi_source.proofs.field.Field.put.Goals as goal

pub returns-clause-sinks : goal.returns-clause-sinks
returns-clause-sinks c = grind arith
