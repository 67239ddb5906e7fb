use Rattle.scenario_sources.proofs.Prelude.{refl, chosen_steps}
use Rattle.scenario_sources.proofs.Lifting.{chosen_read}
use Rattle.scenario_sources.proofs.sources.Sources.is_sending.Goals as goal

pub returns : goal.returns
returns c steps stands = c.is_sending_in.ensures (chosen_steps steps) (chosen_read refl c.index.ensures stands)
