use Rattle.bass_operations.proofs.Prelude.{◌≡◌, ◌-◌, is_some}
use Rattle.bass_operations.specs.Reading.{wishes_in}
use Rattle.bass_operations.proofs.scanning.are_wishes.Given as goal

abbrev pub invariant-subgroups : goal.invariant-subgroups
invariant-subgroups l = is_some (wishes_in (l.count - l.counter) l.rest) ≡ is_some (wishes_in l.count l.octets)
