use Rattle.scenario_sources.proofs.Prelude.{refl, chosen_steps}
use Rattle.scenario_sources.proofs.Lifting.{chosen_read}
use Rattle.scenario_sources.proofs.sources.Sources.event_back.Goals as goal

pub returns-clause-event : goal.returns-clause-event
returns-clause-event c steps stands = c.event_in.ensures.event (chosen_steps steps) (chosen_read refl c.index.ensures stands)
