use Rattle.bass_operations.proofs.Prelude.{◌≡◌, ◌-◌, ◌≤◌, length, take}
use Rattle.bass_operations.specs.Reading.{wishes_in}
use Rattle.bass_operations.proofs.Loops.{with_prefix}
use Rattle.bass_operations.proofs.scanning.read_wishes.Given as goal

abbrev pub invariant-subgroups : goal.invariant-subgroups
invariant-subgroups l = record {
  read : with_prefix (take l.place l.wishes) (wishes_in (l.count - l.place) l.rest) ≡ wishes_in l.count l.octets;
  some : l.place ≤ length l.wishes;
  most : length l.wishes ≤ l.count;
}
