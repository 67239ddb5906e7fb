use Rattle.scenario_sink.proofs.sink.LinkedSink.source.Goals as goal

pub returns : goal.returns
returns c history lives = lives.source_is
