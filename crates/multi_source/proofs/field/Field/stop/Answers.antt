use Rattle.multi_source.proofs.Prelude.{arith}
use Rattle.multi_source.proofs.field.Field.stop.Goals as goal

pub returns-then-s-eq0-clause-stopped : goal.returns-then-s-eq0-clause-stopped
returns-then-s-eq0-clause-stopped c = grind arith
