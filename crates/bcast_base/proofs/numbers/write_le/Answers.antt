use Rattle.bcast_base.proofs.Prelude.{length, bit_and, arith}
use Rattle.bcast_base.proofs.Places.{one_more_written, same_length_rest}
use Rattle.bcast_base.proofs.numbers.write_le.Goals as goal

pub loop-octet-preserved : goal.loop-octet-preserved
loop-octet-preserved c = grind (arith, length, one_more_written, same_length_rest, bit_and)
