use Rattle.scenario_sink.proofs.Prelude.{tick, arith}
use Rattle.scenario_sink.proofs.Stands.{receives}
use Rattle.scenario_sink.proofs.sink.LinkedSink.tick.Goals as goal

pub returns-clause-hands : goal.returns-clause-hands
returns-clause-hands g c history lives = grind arith

pub returns-clause-lives : goal.returns-clause-lives
returns-clause-lives g c history lives = grind (arith, receives, tick)
