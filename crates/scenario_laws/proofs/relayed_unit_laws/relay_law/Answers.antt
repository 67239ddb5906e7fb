use Rattle.scenario_laws.proofs.RelayedUnits.Printed.{relay_law_holds}
use Rattle.scenario_laws.proofs.relayed_unit_laws.relay_law.Goals as goal

pub returns : goal.returns
returns c = relay_law_holds
