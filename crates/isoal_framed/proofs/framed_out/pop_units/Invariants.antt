use Rattle.isoal_framed.proofs.Prelude.{◌≡◌, drop}
use Rattle.isoal_framed.proofs.framed_out.pop_units.Given as goal

abbrev pub invariant-units : goal.invariant-units
invariant-units l = l.queue.items ≡ drop l.counter l.initial.queue.items
