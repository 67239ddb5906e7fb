use Rattle.source_machine.proofs.Prelude.{arith}
use Rattle.source_machine.proofs.Advances.{anchor_fits}
use Rattle.source_machine.proofs.streaming.SourceStreaming.next_laying.Goals as goal

pub anchor-requires-clause-sum : goal.anchor-requires-clause-sum
anchor-requires-clause-sum c = grind (arith, anchor_fits)
