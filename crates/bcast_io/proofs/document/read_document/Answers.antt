use Rattle.bcast_io.proofs.Prelude.{length, arith}
use Rattle.bcast_io.proofs.Readings.{part_read, reads_at}
use Rattle.bcast_io.proofs.document.read_document.Goals as goal

pub returns-in-Err-clause-reads : goal.returns-in-Err-clause-reads
returns-in-Err-clause-reads g c = grind (arith, part_read, length, reads_at)
