use Rattle.isoal_unframed.proofs.Airs.{lays_begun}
use Rattle.isoal_unframed.proofs.air_laws.slots_add_up.Goals as goal

pub returns : goal.returns
returns c = λ info calls count. lays_begun info calls count
