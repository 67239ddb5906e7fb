use Rattle.std.proofs.Common.{◌≤◌, ◌-◌, length, vec_capacity}
use Rattle.c_values.specs.Rooms.{AreRooms}
use Rattle.c_values.proofs.rooms.rooms.Given as goal

-- rooms for so many units at most, of which each has its octets
abbrev pub invariant-rooms : goal.invariant-rooms
invariant-rooms l = record {
  rooms : AreRooms l.octets l.spare.items;
  few : length l.spare.items ≤ l.units;
  capacity : l.units ≤ vec_capacity l.spare;
}

abbrev pub decreases-rooms : goal.decreases-rooms
decreases-rooms l = l.units - l.spare.len
