use Rattle.isoal_unframed.proofs.ring.hand.Goals as goal

pub returns-in-Some-clause-cause : goal.returns-in-Some-clause-cause
returns-in-Some-clause-cause g c = c.valid.ensures.cause
