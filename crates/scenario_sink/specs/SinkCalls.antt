-- The lines of a sink that come again and again. They are the scenario language's own.
use Rattle.std.specs.Prelude.{ℕ}
use Rattle.scenario_text.specs.declared.step.Step.{Step}
use Rattle.scenario_text.specs.declared.step.Step.TheVariants.{Serve, Tell, Drain, Lose}
use Rattle.scenario_sink.specs.declared.sink_call.SinkCall.{SinkCall}
use Rattle.scenario_sink.specs.declared.sink_call.SinkCall.TheVariants as calls

-- the line, where the sink has this number
abbrev pub call_step : SinkCall → ℕ → Step
call_step calls.Serve sink = Serve sink
call_step calls.Tell sink = Tell sink
call_step calls.Drain sink = Drain sink
call_step calls.Lose sink = Lose sink
