use Rattle.replay_steps.proofs.Prelude.{refl, sym, ◌∙◌, ap, arith, length, UnitLine, frequent_step}
use Rattle.replay_steps.proofs.StepLaws.{quiet_as, meets_as}
use Rattle.replay_steps.proofs.machine.Machine.frequent.Goals as goal

pub returns-in-Unit-clause-meets : goal.returns-in-Unit-clause-meets
returns-in-Unit-clause-meets g c starts version steps stands e boxes =
    quiet_as starts _ steps _ _ _ _ _ _ (ap (λ frequent. frequent_step frequent c.args.self.now.spare) c.in-Unit.is
    ∙ ap (UnitLine c.in-Unit.bis c.in-Unit.time) (sym c.as_slice-octets.ensures)) refl refl refl refl
    (c.give.ensures (length starts) version steps c.args.self.now stands refl refl e)

pub returns-in-Event-clause-meets : goal.returns-in-Event-clause-meets
returns-in-Event-clause-meets g c starts version steps stands e boxes =
    meets_as starts steps _ _ _ _ _ _ _ _ (ap (λ frequent. frequent_step frequent c.args.self.now.spare) c.in-Event.is)
    (c.event.ensures.meets starts version steps stands e)

pub returns-in-Air-clause-meets : goal.returns-in-Air-clause-meets
returns-in-Air-clause-meets g c starts version steps stands e boxes =
    grind (arith, quiet_as, c.air.ensures (length starts) version steps stands e)
