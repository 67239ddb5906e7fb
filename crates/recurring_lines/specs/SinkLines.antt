-- The step that a line says which names a sink alone.
use Rattle.scenario_text.specs.declared.step.Step.{Step}
use Rattle.scenario_text.specs.declared.step.Step.TheVariants.{Announce, Serve, Tell, Drain, Lose}
use Rattle.recurring_lines.specs.declared.sink_lines.SinkLine.{SinkLine}
use Rattle.recurring_lines.specs.declared.sink_lines.SinkLine.TheVariants as lines

abbrev pub sink_line_step : SinkLine → Step
sink_line_step (lines.Announce sink) = Announce sink
sink_line_step (lines.Serve sink) = Serve sink
sink_line_step (lines.Tell sink) = Tell sink
sink_line_step (lines.Drain sink) = Drain sink
sink_line_step (lines.Lose sink) = Lose sink
