use Rattle.group_sink.proofs.Prelude.{arith}
use Rattle.group_sink.proofs.group_receivers.GroupReceivers.place.Goals as goal

pub returns : goal.returns
returns c = grind arith
