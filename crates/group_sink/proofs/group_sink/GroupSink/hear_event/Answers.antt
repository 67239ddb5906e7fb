use Rattle.group_sink.proofs.Prelude.{heard_calls, arith}
use Rattle.group_sink.proofs.Standing.{none_hears, some_hears_all}
use Rattle.group_sink.proofs.group_sink.GroupSink.hear_event.Goals as goal

pub returns-in_default : goal.returns-in_default
returns-in_default g c calls stands = grind (arith, heard_calls, none_hears)

pub returns : goal.returns
returns g c calls stands = grind (arith, heard_calls, some_hears_all)
