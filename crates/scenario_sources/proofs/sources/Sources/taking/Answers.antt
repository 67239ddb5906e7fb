use Rattle.scenario_sources.proofs.Prelude.{refl, arith, steps_of_source}
use Rattle.scenario_sources.proofs.Lifting.{phase_read}
use Rattle.scenario_sources.proofs.sources.Sources.taking.Goals as goal

pub returns : goal.returns
returns c steps stands = c.taking_in.ensures (steps_of_source c.args.source steps) (phase_read refl (omega arith) c.index.ensures stands)
