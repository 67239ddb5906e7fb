use Rattle.isoal_unframed.proofs.Prelude.{arith}
use Rattle.isoal_unframed.proofs.Windows.{turned_replicate, place_within}
use Rattle.isoal_unframed.proofs.unframed_in.UnframedIn.new.Goals as goal

pub returns : goal.returns
returns c = grind (arith, place_within, turned_replicate)
