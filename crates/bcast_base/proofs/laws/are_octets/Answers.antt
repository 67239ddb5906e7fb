use Rattle.bcast_base.proofs.Prelude.{arith}
use Rattle.bcast_base.proofs.laws.are_octets.Goals as goal

pub returns : goal.returns
returns c i = omega (arith, c.type_inv.octets i)
