use Rattle.scenario_laws.proofs.RelayedUnits.Dropped.{dropped_law_holds}
use Rattle.scenario_laws.proofs.relayed_unit_laws.units_are_dropped_by_name.Goals as goal

pub returns : goal.returns
returns c = dropped_law_holds
