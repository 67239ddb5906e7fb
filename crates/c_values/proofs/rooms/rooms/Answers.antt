use Rattle.std.proofs.Common.{◌≤◌, ◌∷◌, [], length, vec_capacity, ap, arith, length-append}
use Rattle.c_values.proofs.Rounds.{all_short}
use Rattle.c_values.proofs.rooms.rooms.Goals as goal

pub rooms-preserved : goal.rooms-preserved
rooms-preserved c = record {
  rooms = all_short (λ room. c.args.octets ≤ vec_capacity room) _ _ _ c.push_reserved.ensures.items c.rooms.invariant.rooms c.in-Ok.ensures.capacity;
  few = omega (arith, ap length c.push_reserved.ensures.items, length-append c.rooms.spare.items (c.in-Ok.room ∷ []), c.rooms-test.true, c.len.ensures);
  capacity = omega (arith, c.rooms.invariant.capacity, c.push_reserved.ensures.capacity);
}
