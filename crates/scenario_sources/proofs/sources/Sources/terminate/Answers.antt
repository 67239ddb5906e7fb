use Rattle.scenario_sources.proofs.Prelude.{refl, chosen_steps}
use Rattle.scenario_sources.proofs.Lifting.{terminates}
use Rattle.scenario_sources.proofs.sources.Sources.terminate.Goals as goal

pub returns-clause-ends : goal.returns-clause-ends
returns-clause-ends c version steps stands =
    terminates refl c.index_mut.ensures.value stands _ c.terminate.new.phase refl refl version c.args.reason c.terminate.result
    (c.terminate.ensures.ends version (chosen_steps steps))
