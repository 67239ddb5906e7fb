use Rattle.bcast_base.proofs.Sets.{has_test}
use Rattle.bcast_base.proofs.bis.BisSet.has.Goals as goal

pub returns : goal.returns
returns c = rw (c.get.ensures.same, ← c.self.view_is) (has_test c.self.inside.bits c.args.bis)
