use Rattle.scenario_sources.proofs.Prelude.{refl, chosen_steps}
use Rattle.scenario_text.specs.declared.step.Step.TheVariants.{Unit as UnitStep}
use Rattle.scenario_sources.proofs.Lifting.{answers}
use Rattle.scenario_sources.proofs.sources.Sources.give.Goals as goal

pub returns : goal.returns
returns c version steps stands =
    answers refl c.index_mut.ensures.value stands _ c.give.new.phase refl refl version
    (UnitStep c.args.bis c.args.time c.args.octets.now) c.give.result (record { line = λ s steps. refl; chooses = refl }) refl
    (c.give.ensures version (chosen_steps steps))
