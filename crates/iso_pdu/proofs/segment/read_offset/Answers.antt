use Rattle.iso_pdu.proofs.Prelude.{take, arith, sum_from}
use Rattle.iso_pdu.proofs.Lists.{sum_three_below}
use Rattle.iso_pdu.proofs.segment.read_offset.Goals as goal

pub overflow_cast-result : goal.overflow_cast-result
overflow_cast-result c = grind (arith, sum_from, take, sum_three_below)
