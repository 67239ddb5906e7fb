use Rattle.std.proofs.Common.{arith}
use Rattle.scenario_sinks.proofs.SumLaws.{account_mapped, sum_put}
use Rattle.scenario_sinks.proofs.sums.put_sum_at.Goals as goal

pub returns-in-Some : goal.returns-in-Some
returns-in-Some g c = grind (arith, sum_put, account_mapped)
