use Rattle.isoal_unframed.proofs.Prelude.{arith}
use Rattle.isoal_unframed.proofs.Windows.{first_place, next_place}
use Rattle.isoal_unframed.proofs.stream.Stream.place_behind.Goals as goal

pub returns-then-behind-window : goal.returns-then-behind-window
returns-then-behind-window c = grind (arith, next_place)

pub returns-else-behind-window : goal.returns-else-behind-window
returns-else-behind-window c = grind (arith, first_place)
