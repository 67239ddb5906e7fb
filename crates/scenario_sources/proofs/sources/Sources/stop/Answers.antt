use Rattle.scenario_sources.proofs.Prelude.{refl, chosen_steps}
use Rattle.scenario_text.specs.declared.step.Step.TheVariants.{Stop as StopStep}
use Rattle.scenario_sources.proofs.Lifting.{closes}
use Rattle.scenario_sources.proofs.sources.Sources.stop.Goals as goal

pub returns-clause-closes : goal.returns-clause-closes
returns-clause-closes c version steps stands =
    closes refl c.index_mut.ensures.value stands _ c.stop.new.phase refl refl version StopStep c.stop.result
    (record { line = λ s steps. refl; chooses = refl }) refl (c.stop.ensures.closes version (chosen_steps steps))
