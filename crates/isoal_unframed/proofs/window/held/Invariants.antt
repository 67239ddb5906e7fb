use Rattle.isoal_unframed.proofs.Prelude.{◌≡◌, ◌≤◌, ◌+◌, ◌*◌, map, drop, range_with_len, sum, kept_of, stay_of, held_at}
use Rattle.isoal_unframed.proofs.window.held.Given as goal

abbrev pub invariant-slots : goal.invariant-slots
invariant-slots l = record {
  place : l.first ≡ l.initial.first + l.counter * l.places;
  bound : l.sum ≤ l.counter * l.max_sdu;
  held : l.sum ≡ sum (map (held_at (stay_of l.stream) (drop l.initial.first (kept_of l.ring))) (range_with_len 0 l.counter));
}
