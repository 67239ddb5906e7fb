use Rattle.scenario_laws.proofs.Known.{Below}
use Rattle.scenario_laws.proofs.StartOrder.{order_law_holds}
use Rattle.scenario_laws.proofs.history_laws.order_law.Goals as goal

pub returns : goal.returns
returns c = λ starts. let below : Below = assumption in order_law_holds below starts
