use Rattle.scenario_laws.proofs.RelayedUnits.Left.{left_by_relayed_units}
use Rattle.scenario_laws.proofs.relayed_unit_laws.relayed_units_leave_all_else.Goals as goal

pub returns : goal.returns
returns c = left_by_relayed_units
