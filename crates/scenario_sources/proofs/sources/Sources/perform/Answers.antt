use Rattle.scenario_sources.proofs.Prelude.{refl, chosen_steps}
use Rattle.scenario_sources.proofs.Lifting.{performs}
use Rattle.scenario_sources.proofs.sources.Sources.perform.Goals as goal

pub returns-clause-performs : goal.returns-clause-performs
returns-clause-performs c version steps stands =
    performs refl c.index_mut.ensures.value stands _ c.perform.new.phase refl refl version c.perform.result
    (c.perform.ensures.performs version (chosen_steps steps))
