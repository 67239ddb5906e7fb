use Rattle.isoal_framed.proofs.Prelude.{arith}
use Rattle.isoal_framed.proofs.Closed.{close_stands, close_gains, owed_is}
use Rattle.isoal_framed.proofs.framed_in.FramedIn.close.Goals as goal

pub returns-clause-stands : goal.returns-clause-stands
returns-clause-stands g c calls stands = grind (arith, close_stands)

pub returns-clause-units : goal.returns-clause-units
returns-clause-units g c calls stands = grind (arith, owed_is)

pub returns-clause-gains : goal.returns-clause-gains
returns-clause-gains g c calls stands = close_gains c.args.self.now.stay calls
