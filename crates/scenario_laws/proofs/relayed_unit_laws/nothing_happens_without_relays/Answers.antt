use Rattle.scenario_laws.proofs.Known.Sources.Steps.{none_relayed, nothing_else}
use Rattle.scenario_laws.proofs.RelayedUnits.Printed.{prints_units}
use Rattle.scenario_laws.proofs.relayed_unit_laws.nothing_happens_without_relays.Goals as goal

pub returns-clause-happens : goal.returns-clause-happens
returns-clause-happens c = nothing_else

pub returns-clause-prints : goal.returns-clause-prints
returns-clause-prints c = prints_units

pub returns-clause-refuses : goal.returns-clause-refuses
returns-clause-refuses c = none_relayed
