use Rattle.scenario_laws.proofs.Known.Sources.Steps.{happens_legally}
use Rattle.scenario_laws.proofs.relayed_unit_laws.relayed_units_are_permitted.Goals as goal

pub returns : goal.returns
returns c = λ boxes airs said legal. happens_legally airs boxes said legal
