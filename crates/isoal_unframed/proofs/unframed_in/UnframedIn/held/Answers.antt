use Rattle.isoal_unframed.proofs.Prelude.{arith}
use Rattle.isoal_unframed.proofs.Kept.{length-kept}
use Rattle.isoal_unframed.proofs.Windows.{place_within, held-turned}
use Rattle.isoal_unframed.proofs.unframed_in.UnframedIn.held.Goals as goal

pub returns-clause-held : goal.returns-clause-held
returns-clause-held c = grind (arith, length-kept, place_within, held-turned)
