use Rattle.std.proofs.Common.{arith}
use Rattle.relay_role.specs.State.Relays.{with_unit}
use Rattle.relay_role.proofs.relay.Relay.push.Goals as goal

pub returns-clause-ok : goal.returns-clause-ok
returns-clause-ok c = grind (arith, with_unit)
