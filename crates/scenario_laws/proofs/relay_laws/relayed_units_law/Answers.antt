use Rattle.scenario_laws.proofs.Known.Sources.{arith, length, said_legally}
use Rattle.scenario_laws.proofs.Relaying.Offering.{relayed_units}
use Rattle.scenario_laws.proofs.relay_laws.relayed_units_law.Goals as goal

pub returns : goal.returns
returns c = grind (arith, relayed_units, length, said_legally)
