-- What became of a line of the control or of the links of the sink of a number, which means this source. The lines are the
-- scenario language's own.
use Rattle.std.specs.Prelude.{ℕ, ◌≡◌, List, ◌++◌, None, Some, Result, Ok, Err}
use Rattle.std.specs.List.{concat}
use Rattle.scenario_text.specs.declared.step.Step.{Step}
use Rattle.sink_history.specs.History.{Source}
use Rattle.sink_history.specs.Output.{printed_where}
use Rattle.sink_history.specs.Refusals.{refused_where}
use Rattle.scenario_sink.specs.Making.{Takes}
use Rattle.transcript_text.specs.declared.stop.Stop.{Stop}
use Rattle.transcript_text.specs.declared.stop.Stop.TheVariants.{Refused, OutletFault, Memory}
use Rattle.scenario_sinks.specs.declared.sinks.Sinks.{Sinks}
use Rattle.scenario_sinks.specs.Histories.{Histories, with_line}
use Rattle.scenario_sinks.specs.State.Standing.{SinksStand}

-- it is refused and the sinks have the past without it, or else it prints its lines behind a text, and they have the past with it, or
-- memory ran out, of a line that isn't refused and takes some
abbrev pub SinkLineMakes : Histories → ℕ → Source → Step → Sinks → (text told : List ℕ) → Result (Unit {0}) Stop → Type 0
SinkLineMakes past n source line new text told (Ok _) =
    (refused_where line (past.mades n) (past.lives n) ≡ None) × SinksStand (with_line n source line past) new
    × (told ≡ text ++ concat (printed_where source line (past.mades n) (past.lives n)))
SinkLineMakes past n source line new text told (Err (Refused reason)) =
    (refused_where line (past.mades n) (past.lives n) ≡ Some reason) × SinksStand past new × (told ≡ text)
SinkLineMakes past n source line new text told (Err OutletFault) = ⊥
SinkLineMakes past n source line new text told (Err Memory) =
    (refused_where line (past.mades n) (past.lives n) ≡ None) × Takes line (printed_where source line (past.mades n) (past.lives n))
