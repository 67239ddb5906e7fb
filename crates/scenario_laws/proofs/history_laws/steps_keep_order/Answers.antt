use Rattle.scenario_laws.proofs.Known.Sources.Steps.Prelude.{arith}
use Rattle.scenario_laws.proofs.StartOrder.{stays_in_order}
use Rattle.scenario_laws.proofs.history_laws.steps_keep_order.Goals as goal

pub returns : goal.returns
returns c = grind (arith, stays_in_order assumption)
