use Rattle.receive_state.proofs.Prelude.{◌≡◌, ◌-◌, ◌≤◌, length}
use Rattle.receive_state.specs.Reading.{end_in}
use Rattle.receive_state.proofs.groups.groups_end.Given as goal

abbrev pub invariant-groups : goal.invariant-groups
invariant-groups l = (end_in l.whole (l.count - l.counter) l.rest ≡ end_in l.whole l.count l.octets) × (length l.rest ≤ length l.whole)
