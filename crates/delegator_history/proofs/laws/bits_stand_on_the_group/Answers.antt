use Rattle.delegator_history.proofs.Prelude.{entry_at}
use Rattle.delegator_history.proofs.Bits.{bits_on}
use Rattle.delegator_history.proofs.laws.bits_stand_on_the_group.Goals as goal

pub returns : goal.returns
returns c snapshot slot state is has = bits_on snapshot.place snapshot.encrypted snapshot.taken slot (entry_at snapshot.slots slot) state is has
