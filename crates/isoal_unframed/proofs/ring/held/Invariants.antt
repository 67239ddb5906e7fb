use Rattle.isoal_unframed.proofs.Prelude.{◌≡◌, ◌≤◌, ◌+◌, ◌-◌, drop, held_cells}
use Rattle.isoal_unframed.proofs.ring.held.Given as goal

abbrev pub invariant-places : goal.invariant-places
invariant-places l = record {
  bound : l.sum ≤ l.max_sdu;
  held : l.sum + held_cells (l.max_sdu - l.sum) (drop l.cell-index l.cells) ≡ held_cells l.max_sdu l.cells;
}
