use Rattle.scenario_sources.proofs.Prelude.{arith}
use Rattle.scenario_sources.proofs.Phasing.{identifies}
use Rattle.scenario_sources.proofs.describing.identify.Goals as goal

pub returns : goal.returns
returns c version own is = grind (arith, identifies)
