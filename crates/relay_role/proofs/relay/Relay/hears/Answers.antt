use Rattle.std.proofs.Common.{arith}
use Rattle.relay_role.proofs.relay.Relay.hears.Goals as goal

pub returns : goal.returns
returns c = grind arith
