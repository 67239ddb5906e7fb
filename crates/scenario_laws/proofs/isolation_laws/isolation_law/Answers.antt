use Rattle.scenario_laws.proofs.Isolating.Isolated.{isolation_holds}
use Rattle.scenario_laws.proofs.isolation_laws.isolation_law.Goals as goal

pub returns : goal.returns
returns c = isolation_holds
