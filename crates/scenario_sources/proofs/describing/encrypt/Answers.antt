use Rattle.scenario_sources.proofs.Prelude.{arith}
use Rattle.scenario_sources.proofs.Phasing.{encrypted_twice, encrypts}
use Rattle.scenario_sources.proofs.describing.encrypt.Goals as goal

pub returns-then-is_some : goal.returns-then-is_some
returns-then-is_some c version own is = grind (arith, encrypted_twice)

pub returns : goal.returns
returns c version own is = grind (arith, encrypts)
