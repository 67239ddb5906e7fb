use Rattle.receive_state.proofs.Prelude.{◌≡◌, ◌-◌, ◌≤◌, length, take, groups_of}
use Rattle.receive_state.proofs.Loops.{with_prefix}
use Rattle.receive_state.proofs.groups.read_groups.Given as goal

abbrev pub invariant-groups : goal.invariant-groups
invariant-groups l = record {
  read : with_prefix (take l.place l.groups) (groups_of (l.count - l.place) l.rest) ≡ groups_of l.count l.octets;
  some : l.place ≤ length l.groups;
  most : length l.groups ≤ l.count;
}
