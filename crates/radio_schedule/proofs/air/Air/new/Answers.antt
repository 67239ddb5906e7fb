use Rattle.std.proofs.Common.{refl, arith}
use Rattle.radio_schedule.proofs.air.Air.new.Goals as goal

pub invariant_of-result : goal.invariant_of-result
invariant_of-result c = (rw c.in_ok-with_capacity.ensures refl, λ k d b. grind (arith, c.in_ok-with_capacity.ensures))
