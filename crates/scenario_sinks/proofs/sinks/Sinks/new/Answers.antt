use Rattle.std.proofs.Common.{arith}
use Rattle.scenario_sinks.proofs.Entries.{none_made}
use Rattle.scenario_sinks.proofs.sinks.Sinks.new.Goals as goal

pub returns : goal.returns
returns c = grind (arith, none_made)
