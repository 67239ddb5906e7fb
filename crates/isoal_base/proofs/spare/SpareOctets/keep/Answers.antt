use Rattle.std.proofs.Common.{arith}
use Rattle.isoal_base.proofs.spare.SpareOctets.keep.Goals as goal

pub returns-else-len-lt-SPARES : goal.returns-else-len-lt-SPARES
returns-else-len-lt-SPARES c = record { kept = omega arith }
