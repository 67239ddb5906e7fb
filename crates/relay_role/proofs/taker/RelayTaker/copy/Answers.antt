use Rattle.std.proofs.Common.{arith}
use Rattle.relay_role.specs.State.Relays.{with_unit}
use Rattle.relay_role.proofs.taker.RelayTaker.copy.Goals as goal

pub returns-in-Ok-clause-copied : goal.returns-in-Ok-clause-copied
returns-in-Ok-clause-copied t c = grind (arith, with_unit)
