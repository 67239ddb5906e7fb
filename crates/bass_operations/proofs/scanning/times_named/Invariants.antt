use Rattle.bass_operations.proofs.Prelude.{◌≡◌, ◌+◌, ◌-◌, ◌≤◌}
use Rattle.bass_operations.specs.Scanning.{named_in}
use Rattle.bass_operations.proofs.scanning.times_named.Given as goal

abbrev pub invariant-subgroups : goal.invariant-subgroups
invariant-subgroups l = (l.times + named_in l.bis (l.count - l.counter) l.rest ≡ named_in l.bis l.count l.octets) × (l.times ≤ l.counter)
