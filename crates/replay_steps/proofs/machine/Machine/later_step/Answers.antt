use Rattle.replay_steps.proofs.Prelude.{refl, sym, ◌∙◌, ap, arith, length, common_steps, UnitLine}
use Rattle.replay_steps.proofs.StepLaws.{quiet_as, quiet_beside, tells_as, meets_as}
use Rattle.replay_steps.proofs.machine.Machine.later_step.Goals as goal

pub returns-in-Unit-clause-meets : goal.returns-in-Unit-clause-meets
returns-in-Unit-clause-meets g c starts steps stands e boxes =
    quiet_as starts _ steps _ _ _ _ _ _
    (c.in-Unit.is ∙ ap (UnitLine c.in-Unit.bis c.in-Unit.time) (sym c.as_slice.ensures)) refl refl refl refl
    (quiet_beside (length starts) steps (UnitLine c.in-Unit.bis c.in-Unit.time c.as_slice.result.now) c.unit-given.new.self _ _
    refl refl refl refl (c.unit-given.ensures (length starts) _ steps stands e))

pub returns-in-Hear-clause-meets : goal.returns-in-Hear-clause-meets
returns-in-Hear-clause-meets g c starts steps stands e boxes =
    quiet_as starts _ steps _ _ _ _ _ _ c.in-Hear.is refl refl refl refl (c.hear.ensures (length starts) _ steps stands e)

pub returns-in-Air-clause-meets : goal.returns-in-Air-clause-meets
returns-in-Air-clause-meets g c starts steps stands e boxes =
    quiet_as starts _ steps _ _ _ _ _ _ c.in-Air.is refl refl refl refl (c.air.ensures (length starts) _ steps stands e)

pub returns-in-Event-clause-meets : goal.returns-in-Event-clause-meets
returns-in-Event-clause-meets g c starts steps stands e boxes =
    meets_as starts steps _ _ _ _ _ _ _ _ c.in-Event.is (c.event.ensures.meets starts _ steps stands e)

pub returns-in-Announce-clause-meets : goal.returns-in-Announce-clause-meets
returns-in-Announce-clause-meets g c starts steps stands e boxes =
    tells_as starts steps _ _ _ _ _ _ _ c.in-Announce.is refl refl refl (c.announce.ensures starts _ steps stands e)

pub sink_line-requires-clause-line : goal.sink_line-requires-clause-line
sink_line-requires-clause-line g c = grind (arith, common_steps)

pub returns-in-Pac-clause-meets : goal.returns-in-Pac-clause-meets
returns-in-Pac-clause-meets g c starts steps stands e boxes = c.sink_line.ensures starts _ _ steps stands e

pub rare_step-requires-clause-rare : goal.rare_step-requires-clause-rare
rare_step-requires-clause-rare g c = grind (arith, common_steps)

pub returns-in-Scenario-clause-meets : goal.returns-in-Scenario-clause-meets
returns-in-Scenario-clause-meets g c starts steps stands e boxes = c.rare_step.ensures.meets starts steps stands e boxes
