use Rattle.source_machine.proofs.Prelude.{refl}
use Rattle.source_machine.proofs.Standing.{stands_new}
use Rattle.source_machine.proofs.configured.SourceConfigured.start.Goals as goal

pub returns-in-Ok-clause-ok : goal.returns-in-Ok-clause-ok
returns-in-Ok-clause-ok c =
    let plan = c.self.inside.plan in
    rw (← c.self.view_is) (
      refl,
      refl,
      stands_new (record { info = plan.group.info; origin = plan.origin; delay = plan.base.delay; first = c.args.first_event; ahead = plan.ahead })
          c.in-Ok.streams.items c.in-Ok.ensures.new plan.identity plan.base plan.cipher,
    )

pub returns-in-Ok-clause-announced : goal.returns-in-Ok-clause-announced
returns-in-Ok-clause-announced c = rw (← c.self.view_is) (refl, refl)
