use Rattle.group_sink.proofs.Prelude.{arith}
use Rattle.group_sink.proofs.Events.{heard_more}
use Rattle.group_sink.proofs.hearing.hear_framed.Goals as goal

pub subevents-preserved : goal.subevents-preserved
subevents-preserved g c = grind (arith, heard_more)
