use Rattle.pacs_records.proofs.Prelude.{arith}
use Rattle.pacs_records.proofs.Fields.{few}
use Rattle.pacs_records.proofs.writing.encode_pacs.Goals as goal

pub overflow_cast-records : goal.overflow_cast-records
overflow_cast-records c = omega (arith, few c.as_slice-records.result.now c.as_slice-records.ensures.records)
