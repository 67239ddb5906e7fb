use Rattle.scenario_sink.proofs.Results.{on_ok}
use Rattle.scenario_sink.proofs.Stands.{gathered}
use Rattle.scenario_sink.proofs.sink.LinkedSink.gather.Goals as goal

pub returns-clause-stands : goal.returns-clause-stands
returns-clause-stands c call history its = search (on_ok, gathered)
