use Rattle.isoal_unframed.proofs.Prelude.{arith}
use Rattle.isoal_unframed.proofs.Kept.{kept_replicate}
use Rattle.isoal_unframed.proofs.ring.Ring.new.Goals as goal

pub returns-clause-empty : goal.returns-clause-empty
returns-clause-empty c = grind (arith, kept_replicate)
