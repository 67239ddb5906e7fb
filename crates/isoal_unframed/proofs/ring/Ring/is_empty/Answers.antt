use Rattle.isoal_unframed.proofs.Prelude.{arith, get_or_default}
use Rattle.isoal_unframed.proofs.Kept.{empty_at, full_at}
use Rattle.isoal_unframed.proofs.ring.Ring.is_empty.Goals as goal

pub returns-in-Empty : goal.returns-in-Empty
returns-in-Empty c = grind (arith, get_or_default, empty_at)

pub returns-in_default : goal.returns-in_default
returns-in_default c = grind (arith, get_or_default, full_at)
