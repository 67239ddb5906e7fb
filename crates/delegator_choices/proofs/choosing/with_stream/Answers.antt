use Rattle.delegator_choices.proofs.Prelude.{refl}
use Rattle.delegator_choices.proofs.choosing.with_stream.Goals as goal

pub returns-clause-room : goal.returns-clause-room
returns-clause-room c = refl
