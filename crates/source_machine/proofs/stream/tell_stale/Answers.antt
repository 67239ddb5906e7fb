use Rattle.source_machine.proofs.Prelude.{arith}
use Rattle.source_machine.proofs.Lists.{stale_more}
use Rattle.source_machine.proofs.stream.tell_stale.Goals as goal

pub times-preserved : goal.times-preserved
times-preserved c = grind (arith, stale_more)
