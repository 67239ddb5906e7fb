use Rattle.std.proofs.Common.{arith, refl}
use Rattle.layouts_c.proofs.info.air_group_check.Goals as goal

pub returns-in-Ok-clause-some : goal.returns-in-Ok-clause-some
returns-in-Ok-clause-some c = λ is. absurd (Prim.omega (arith, is))

pub returns-in-Ok-clause-same : goal.returns-in-Ok-clause-same
returns-in-Ok-clause-same c = λ _. refl
