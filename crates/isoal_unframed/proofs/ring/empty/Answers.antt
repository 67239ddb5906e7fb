use Rattle.isoal_unframed.proofs.Prelude.{◌≡◌, List, [], ◌∷◌, length, replicate, slice_set, refl, arith, Cell, Empty}
use Rattle.isoal_unframed.proofs.ring.empty.Goals as goal

one_emptied : (cells : List Cell) → length cells ≡ 1 → slice_set cells 0 Empty ≡ replicate (length cells) Empty
one_emptied [] one = absurd (omega arith)
one_emptied (cell ∷ []) one = refl
one_emptied (cell ∷ more ∷ cells) one = absurd (omega arith)

pub returns-then-cells-eq1 : goal.returns-then-cells-eq1
returns-then-cells-eq1 c = one_emptied c.args.cells.now (omega (arith, c.if-cells-eq1.true))
