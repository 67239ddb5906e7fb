use Rattle.isoal_unframed.proofs.Prelude.{arith, on_ok_weaker}
use Rattle.isoal_unframed.proofs.Airs.{stands_accept}
use Rattle.isoal_unframed.proofs.unframed_out.UnframedOut.put.Goals as goal

pub returns-clause-stands : goal.returns-clause-stands
returns-clause-stands c = grind (arith, on_ok_weaker, stands_accept)
