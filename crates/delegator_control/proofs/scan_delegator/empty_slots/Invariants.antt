use Rattle.delegator_control.proofs.Prelude.{◌≡◌, None, replicate}
use Rattle.delegator_control.proofs.scan_delegator.empty_slots.Given as goal

abbrev pub invariant-places : goal.invariant-places
invariant-places l = l.slots.items ≡ replicate l.counter None
