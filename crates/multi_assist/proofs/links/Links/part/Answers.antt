use Rattle.std.proofs.Common.{refl}
use Rattle.multi_assist.proofs.links.Links.part.Goals as goal

pub returns-clause-links : goal.returns-clause-links
returns-clause-links c = rw (c.set.ensures.links, c.empty.ensures) refl
