use Rattle.isoal_unframed.proofs.Prelude.{arith}
use Rattle.isoal_unframed.proofs.Stands.{hear_stands}
use Rattle.isoal_unframed.proofs.unframed_in.UnframedIn.hear.Goals as goal

pub returns-clause-stands : goal.returns-clause-stands
returns-clause-stands c calls stands =
    grind (arith, c.take_in.ensures.step, hear_stands c.args.self.now c.args.number c.args.pdu.now c.take_in.ensures.bounds calls stands)
