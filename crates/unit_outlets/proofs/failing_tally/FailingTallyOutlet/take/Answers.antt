use Rattle.std.proofs.Common.{inl}
use Rattle.unit_outlets.proofs.failing_tally.FailingTallyOutlet.take.Goals as goal

pub returns-then-is_listed-clause-exact : goal.returns-then-is_listed-clause-exact
returns-then-is_listed-clause-exact c = rw (← c.self.view_is) (inl (c.is_next_listed-is_listed.ensures.0 c.if-is_listed.true))
