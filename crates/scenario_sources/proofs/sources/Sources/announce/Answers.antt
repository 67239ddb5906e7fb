use Rattle.scenario_sources.proofs.Prelude.{refl, chosen_steps}
use Rattle.scenario_sources.proofs.Lifting.{chosen_read}
use Rattle.scenario_sources.proofs.sources.Sources.announce.Goals as goal

pub returns-clause-announces : goal.returns-clause-announces
returns-clause-announces c steps stands = c.announce.ensures.announces (chosen_steps steps) (chosen_read refl c.index.ensures stands)
