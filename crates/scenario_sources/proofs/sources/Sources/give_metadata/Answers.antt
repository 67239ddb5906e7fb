use Rattle.scenario_sources.proofs.Prelude.{refl, Meta, chosen_steps}
use Rattle.scenario_sources.proofs.Lifting.{answers}
use Rattle.scenario_sources.proofs.sources.Sources.give_metadata.Goals as goal

pub returns : goal.returns
returns c version steps stands =
    answers refl c.index_mut.ensures.value stands _ c.give_metadata.new.phase refl refl version (Meta c.args.metadata.now)
    c.give_metadata.result (record { line = λ s steps. refl; chooses = refl }) refl (c.give_metadata.ensures version (chosen_steps steps))
