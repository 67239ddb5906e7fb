use Rattle.scenario_sources.proofs.Prelude.{refl, chosen_steps, group_step, arith}
use Rattle.scenario_sources.proofs.Lifting.{answers}
use Rattle.scenario_sources.proofs.sources.Sources.describe.Goals as goal

pub returns : goal.returns
returns c version steps plain stands =
    answers refl c.index_mut.ensures.value stands _ c.describe.new.phase refl refl version
    (group_step c.args.info c.args.origin c.args.delay) c.describe.result (grind arith) refl
    (c.describe.ensures version (chosen_steps steps) plain)
