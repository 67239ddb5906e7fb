use Rattle.scenario_sink.proofs.Prelude.{◌∙◌, ap, arith, value_at}
use Rattle.scenario_sink.proofs.Shown.{there}
use Rattle.scenario_sink.proofs.Untold.{its_snapshot}
use Rattle.scenario_sink.proofs.sink.LinkedSink.state.Goals as goal

pub returns : goal.returns
returns c history lives =
    let took = lives.stands.took in
    there history.made history.calls_made c.args.slot c.in_ok-state.state
    (omega (arith, c.if-slot-self.false, c.args.self.now.fits, ap (λ settings. settings.setup.slots) took.settings_is))
    (c.in_ok-state.ensures.value history.made.setup took.taken took.stands ∙ ap (λ s. value_at s c.args.slot) (its_snapshot history _ _ took))
