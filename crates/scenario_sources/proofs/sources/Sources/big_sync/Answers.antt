use Rattle.scenario_sources.proofs.Prelude.{refl, chosen_steps}
use Rattle.scenario_sources.proofs.Lifting.{chosen_read}
use Rattle.scenario_sources.proofs.sources.Sources.big_sync.Goals as goal

pub returns : goal.returns
returns c steps stands = c.big_sync_in.ensures (chosen_steps steps) (chosen_read refl c.index.ensures stands)
