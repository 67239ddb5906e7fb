use Rattle.scenario_sources.proofs.Prelude.{refl, Bis, chosen_steps}
use Rattle.scenario_sources.proofs.Lifting.{answers}
use Rattle.scenario_sources.proofs.sources.Sources.add_stream.Goals as goal

pub returns : goal.returns
returns c version steps stands =
    answers refl c.index_mut.ensures.value stands _ c.add_stream.new.phase refl refl version (Bis c.args.bis c.args.config.now)
    c.add_stream.result (record { line = λ s steps. refl; chooses = refl }) refl (c.add_stream.ensures version (chosen_steps steps))
