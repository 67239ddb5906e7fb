use Rattle.scenario_sources.proofs.Prelude.{refl, chosen_steps}
use Rattle.scenario_text.specs.declared.step.Step.TheVariants.{Subgroup as SubgroupStep}
use Rattle.scenario_sources.proofs.Lifting.{answers}
use Rattle.scenario_sources.proofs.sources.Sources.open_subgroup.Goals as goal

pub returns : goal.returns
returns c version steps stands =
    answers refl c.index_mut.ensures.value stands _ c.open_subgroup.new.phase refl refl version
    (SubgroupStep c.args.codec c.args.config.now) c.open_subgroup.result (record { line = λ s steps. refl; chooses = refl }) refl
    (c.open_subgroup.ensures version (chosen_steps steps))
