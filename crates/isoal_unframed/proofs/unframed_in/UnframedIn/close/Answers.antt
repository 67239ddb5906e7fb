use Rattle.isoal_unframed.proofs.Prelude.{arith}
use Rattle.isoal_unframed.proofs.Stands.{close_stands, owed_is}
use Rattle.isoal_unframed.proofs.unframed_in.UnframedIn.close.Goals as goal

pub returns-clause-stands : goal.returns-clause-stands
returns-clause-stands g c calls stands = grind (arith, close_stands)

pub returns-clause-units : goal.returns-clause-units
returns-clause-units g c calls stands = grind (arith, owed_is)
