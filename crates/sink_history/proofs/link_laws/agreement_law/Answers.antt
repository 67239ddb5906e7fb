use Rattle.sink_history.proofs.Prelude.{arith}
use Rattle.sink_history.proofs.Agreeing.{agrees, drained_agrees}
use Rattle.sink_history.proofs.link_laws.agreement_law.Goals as goal

pub returns-clause-agrees : goal.returns-clause-agrees
returns-clause-agrees c = grind (arith, agrees)

pub returns-clause-drained : goal.returns-clause-drained
returns-clause-drained c = grind (arith, drained_agrees)
