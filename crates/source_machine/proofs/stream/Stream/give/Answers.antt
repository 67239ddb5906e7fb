use Rattle.source_machine.proofs.Prelude.{arith}
use Rattle.source_machine.proofs.LaidEvents.{accepts}
use Rattle.source_machine.proofs.stream.Stream.give.Goals as goal

pub returns-clause-ok : goal.returns-clause-ok
returns-clause-ok c = grind (arith, accepts)
