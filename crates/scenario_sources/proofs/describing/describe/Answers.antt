use Rattle.scenario_sources.proofs.Prelude.{refl}
use Rattle.scenario_sources.proofs.Phasing.{describes}
use Rattle.scenario_sources.proofs.describing.describe.Goals as goal

pub returns : goal.returns
returns c version own plain is = rw c.put_phase.ensures (describes version own c.args.info c.args.origin c.args.delay _ plain (rw c.in-Absent.is at is) refl refl refl refl c.new.ensures)
