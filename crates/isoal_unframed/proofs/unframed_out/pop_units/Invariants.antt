use Rattle.isoal_unframed.proofs.Prelude.{◌≡◌, drop}
use Rattle.isoal_unframed.proofs.unframed_out.pop_units.Given as goal

abbrev pub invariant-units : goal.invariant-units
invariant-units l = l.waiting.items ≡ drop l.counter l.initial.waiting.items
