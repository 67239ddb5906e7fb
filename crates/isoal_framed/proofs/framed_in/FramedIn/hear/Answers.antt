use Rattle.isoal_framed.proofs.Prelude.{arith}
use Rattle.isoal_framed.proofs.Closed.{hear_stands, decides_nothing}
use Rattle.isoal_framed.proofs.framed_in.FramedIn.hear.Goals as goal

pub returns-clause-stands : goal.returns-clause-stands
returns-clause-stands c calls stands = grind (arith, c.take_in.ensures.step, hear_stands c.args.self.now c.args.number c.args.pdu.now c.take_in.ensures.bounds calls stands)

pub returns-clause-decides : goal.returns-clause-decides
returns-clause-decides c calls = decides_nothing c.args.self.now.stay calls c.args.number c.args.pdu.now
