use Rattle.replay_steps.proofs.Prelude.{arith}
use Rattle.replay_steps.proofs.Airing.{kept_there, lost_there, unlost_count}
use Rattle.replay_steps.proofs.heard_event.HeardEventStreamEvent.pdu.Goals as goal

pub bounds-self-from : goal.bounds-self-from
bounds-self-from c = grind (arith, unlost_count)

pub pdu-requires : goal.pdu-requires
pdu-requires c = grind (arith, unlost_count)

pub returns-then-self-from : goal.returns-then-self-from
returns-then-self-from c = grind (arith, lost_there, unlost_count)

pub returns : goal.returns
returns c = grind (arith, kept_there, unlost_count)
