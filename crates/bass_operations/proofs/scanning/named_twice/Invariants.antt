use Rattle.bass_operations.proofs.Prelude.{◌≡◌, ◌-◌}
use Rattle.bass_operations.specs.Scanning.{twice_in}
use Rattle.bass_operations.proofs.scanning.named_twice.Given as goal

abbrev pub invariant-streams : goal.invariant-streams
invariant-streams l = twice_in (32 - l.bis) l.bis l.count l.octets ≡ twice_in 31 1 l.count l.octets
