use Rattle.isoal_unframed.proofs.Prelude.{arith}
use Rattle.isoal_unframed.proofs.Kept.{length-kept}
use Rattle.isoal_unframed.proofs.Turns.{length-turned}
use Rattle.isoal_unframed.proofs.Windows.{place_within}
use Rattle.isoal_unframed.proofs.unframed_in.UnframedIn.open_event.Goals as goal

pub returns-clause-kept : goal.returns-clause-kept
returns-clause-kept c = grind (arith, length-kept, place_within, length-turned)
