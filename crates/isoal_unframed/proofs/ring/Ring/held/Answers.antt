use Rattle.isoal_unframed.proofs.Prelude.{◌-◌, arith}
use Rattle.isoal_unframed.proofs.Kept.{held_slot}
use Rattle.isoal_unframed.proofs.ring.Ring.held.Goals as goal

pub returns-clause-held : goal.returns-clause-held
returns-clause-held c = grind (arith, held_slot)
