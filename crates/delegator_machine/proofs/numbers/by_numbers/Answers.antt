use Rattle.delegator_machine.proofs.Prelude.{refl}
use Rattle.delegator_machine.proofs.numbers.by_numbers.Goals as goal

pub returns : goal.returns
returns c = rw (← c.big_sync.view_is, c.alone.ensures) refl
