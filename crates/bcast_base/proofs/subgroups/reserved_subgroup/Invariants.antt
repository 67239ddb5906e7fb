use Rattle.bcast_base.proofs.Prelude.{◌≡◌, ◌≤◌, ◌-◌, length}
use Rattle.bcast_base.specs.Subgroups.{reserved_in}
use Rattle.bcast_base.proofs.subgroups.reserved_subgroup.Given as goal

abbrev pub invariant-subgroups : goal.invariant-subgroups
invariant-subgroups l = (length l.rest ≤ length l.whole) × (reserved_in l.whole (l.count - l.counter) l.rest ≡ reserved_in l.whole l.count l.octets)
