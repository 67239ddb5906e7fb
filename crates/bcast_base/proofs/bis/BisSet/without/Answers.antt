use Rattle.bcast_base.proofs.Sets.{without_has, without_others}
use Rattle.bcast_base.proofs.bis.BisSet.without.Goals as goal

pub returns-clause-has : goal.returns-clause-has
returns-clause-has c = without_has c.self.inside.bits c.args.self c.get.result c.args.bis c.self.view_is c.get.ensures.same c.get.ensures.least c.get.ensures.greatest

pub returns-clause-others : goal.returns-clause-others
returns-clause-others c = without_others c.self.inside.bits c.args.self c.get.result c.args.bis c.self.invariant c.self.view_is c.get.ensures.same c.get.ensures.least c.get.ensures.greatest
