use Rattle.group_sink.proofs.Prelude.{refl, sym}
use Rattle.group_sink.proofs.group_receivers.GroupReceivers.tick.Goals as goal

pub returns-clause-step : goal.returns-clause-step
returns-clause-step g c = rw (sym c.self.view_is, c.close_all.ensures.step) refl

pub returns-clause-hands : goal.returns-clause-hands
returns-clause-hands g c = rw (sym c.self.view_is) c.close_all.ensures.hands
