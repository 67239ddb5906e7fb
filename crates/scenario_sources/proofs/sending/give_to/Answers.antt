use Rattle.scenario_sources.proofs.Prelude.{airs_of, airs_exist, arith}
use Rattle.scenario_sources.proofs.Phasing.{gives_not}
use Rattle.scenario_sources.proofs.sending.give_to.Goals as goal

pub returns-in-Ok-clause-source : goal.returns-in-Ok-clause-source
returns-in-Ok-clause-source c = grind (arith, airs_of, airs_exist)

pub returns-in-Err-clause-source : goal.returns-in-Err-clause-source
returns-in-Err-clause-source c = grind (arith, gives_not, airs_of, airs_exist)
