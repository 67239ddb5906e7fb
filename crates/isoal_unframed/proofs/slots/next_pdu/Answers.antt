use Rattle.isoal_unframed.proofs.Prelude.{arith}
use Rattle.isoal_unframed.proofs.SlotSteps.{begins_long, begins_none, begins_short}
use Rattle.isoal_unframed.proofs.slots.next_pdu.Goals as goal

pub returns-in_default : goal.returns-in_default
returns-in_default c = grind (arith, begins_none)

pub returns-then-octets-most : goal.returns-then-octets-most
returns-then-octets-most c = grind (arith, begins_short)

pub returns : goal.returns
returns c = grind (arith, begins_long)
