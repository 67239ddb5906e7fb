use Rattle.pacs_records.proofs.Prelude.{arith}
use Rattle.pacs_records.proofs.Loop.{never_fails, goes_on, list_done}
use Rattle.pacs_records.proofs.reading.own_records.Goals as goal

pub unreachable-requires : goal.unreachable-requires
unreachable-requires c = grind (arith, never_fails)

pub loop-preserved : goal.loop-preserved
loop-preserved c = grind (arith, goes_on)

pub returns-clause-ok : goal.returns-clause-ok
returns-clause-ok c = grind (arith, list_done)
