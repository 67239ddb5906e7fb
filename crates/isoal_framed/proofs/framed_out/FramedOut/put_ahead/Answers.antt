use Rattle.isoal_framed.proofs.Prelude.{arith, on_ok_weaker}
use Rattle.isoal_framed.proofs.Senders.{accept_stands}
use Rattle.isoal_framed.proofs.framed_out.FramedOut.put_ahead.Goals as goal

pub returns-clause-stands : goal.returns-clause-stands
returns-clause-stands c = grind (arith, on_ok_weaker, accept_stands)
