use Rattle.delegator_machine.proofs.Prelude.{refl}
use Rattle.delegator_machine.proofs.delegator.has_left.Goals as goal

pub returns-then-was : goal.returns-then-was
returns-then-was c = rw c.if-was.true refl
