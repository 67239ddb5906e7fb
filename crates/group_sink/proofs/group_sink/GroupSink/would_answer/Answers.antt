use Rattle.group_sink.proofs.Prelude.{arith}
use Rattle.group_sink.proofs.Standing.{some_answers}
use Rattle.group_sink.proofs.group_sink.GroupSink.would_answer.Goals as goal

pub returns : goal.returns
returns c calls stands = grind (arith, some_answers)
