use Rattle.scenario_sink.proofs.Prelude.{hear, hearing_of, arith}
use Rattle.scenario_sink.proofs.Stands.{receives}
use Rattle.scenario_sink.proofs.sink.LinkedSink.hear.Goals as goal

pub returns-clause-answer : goal.returns-clause-answer
returns-clause-answer c history lives = grind (arith, hearing_of)

pub returns-clause-lives : goal.returns-clause-lives
returns-clause-lives c history lives = grind (arith, receives, hear)
