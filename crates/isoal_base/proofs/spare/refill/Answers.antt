use Rattle.isoal_base.proofs.spare.refill.Goals as goal

pub returns-clause-ok : goal.returns-clause-ok
returns-clause-ok c = rw c.clear.ensures at c.append.ensures.ok
