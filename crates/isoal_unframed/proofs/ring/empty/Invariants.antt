use Rattle.isoal_unframed.proofs.Prelude.{◌≡◌, take, replicate, Empty}
use Rattle.isoal_unframed.proofs.ring.empty.Given as goal

abbrev pub invariant-loop-cell : goal.invariant-loop-cell
invariant-loop-cell l = take l.cell-index l.cells ≡ replicate l.cell-index Empty
