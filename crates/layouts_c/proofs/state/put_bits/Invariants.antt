use Rattle.std.proofs.Common.{◌≡◌, take}
use Rattle.layouts_c.specs.States.{bits_of}
use Rattle.layouts_c.proofs.state.put_bits.Given as goal

abbrev pub invariant-groups : goal.invariant-groups
invariant-groups l = take l.place l.room ≡ bits_of (take l.place l.groups)
