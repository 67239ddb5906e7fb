use Rattle.isoal_unframed.proofs.Prelude.{arith}
use Rattle.isoal_unframed.proofs.Kept.{length-kept}
use Rattle.isoal_unframed.proofs.Windows.{place_at_most, place_within, owed-turned, closed_kept}
use Rattle.isoal_unframed.proofs.unframed_in.UnframedIn.hand_units.Goals as goal

pub clear-requires : goal.clear-requires
clear-requires g c = grind (arith, place_at_most)

pub returns-clause-step : goal.returns-clause-step
returns-clause-step g c = grind (arith, length-kept, closed_kept)

pub returns-clause-hands : goal.returns-clause-hands
returns-clause-hands g c = grind (arith, length-kept, place_within, owed-turned)
