use Rattle.scenario_laws.proofs.RelayedUnits.Left.{passes_at_once}
use Rattle.scenario_laws.proofs.relayed_unit_laws.what_is_not_dropped_is_accepted.Goals as goal

pub returns : goal.returns
returns c = passes_at_once
