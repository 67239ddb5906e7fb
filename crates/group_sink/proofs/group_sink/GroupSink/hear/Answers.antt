use Rattle.group_sink.proofs.Prelude.{hear, arith}
use Rattle.group_sink.proofs.Standing.{some_answers, some_hears}
use Rattle.group_sink.proofs.group_sink.GroupSink.hear.Goals as goal

pub returns-clause-answer : goal.returns-clause-answer
returns-clause-answer c calls stands = grind (arith, some_answers)

pub returns-clause-stands : goal.returns-clause-stands
returns-clause-stands c calls stands = grind (arith, hear, some_hears)
