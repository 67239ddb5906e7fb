use Rattle.scenario_sink.proofs.Prelude.{hearing_of, arith}
use Rattle.scenario_sink.proofs.sink.LinkedSink.would_answer.Goals as goal

pub returns : goal.returns
returns c history lives = grind (arith, hearing_of)
