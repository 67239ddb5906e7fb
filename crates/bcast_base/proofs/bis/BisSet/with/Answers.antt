use Rattle.bcast_base.proofs.Sets.{set_below, with_has, with_others}
use Rattle.bcast_base.proofs.bis.BisSet.with.Goals as goal

pub invariant_of-result : goal.invariant_of-result
invariant_of-result c = set_below c.self.inside.bits c.get.result c.self.invariant c.get.ensures.least c.get.ensures.greatest

pub returns-clause-has : goal.returns-clause-has
returns-clause-has c = with_has c.self.inside.bits c.args.self c.get.result c.args.bis c.self.view_is c.get.ensures.same c.get.ensures.least c.get.ensures.greatest

pub returns-clause-others : goal.returns-clause-others
returns-clause-others c = with_others c.self.inside.bits c.args.self c.get.result c.args.bis c.self.view_is c.get.ensures.same c.get.ensures.least c.get.ensures.greatest
