-- The transcript of a text, which is this project's own: what its lines bring, up to the first refusal, and the line of
-- NoEnd where they have neither a refusal nor `end`.
use Rattle.std.specs.Prelude.{ℕ, ◌+◌, Bool, List, [], ◌++◌, length, reverse, if◌then◌else◌}
use Rattle.bcast_io.specs.TextLines.{TextLine}
use Rattle.unit_outlets.specs.Account.{Account}
use Rattle.transcript_text.specs.declared.refusal.Refusal.{Refusal}
use Rattle.transcript_text.specs.declared.refusal.Refusal.TheVariants.{NoEnd}
use Rattle.transcript_text.specs.Lines.{refusal_line}
use Rattle.scenario_history.specs.Runs.{End, through, refused, out, end_of, accepted_of}
use Rattle.scenario_history.specs.Steps.{is_over}
use Rattle.source_machine.specs.Airs.{Airs}
use Rattle.scenario_history.specs.Boxes.{SinkUnit, handed_up}
use Rattle.scenario_history.specs.Lines.{rules_of, said_of, steps_of}

abbrev pub out_of : Airs → List Account → List TextLine → List ℕ
out_of airs starts lines = out (rules_of airs starts) [] lines

abbrev pub end_after : Airs → List Account → List TextLine → End Refusal
end_after airs starts lines = end_of (rules_of airs starts) [] lines

abbrev pub last_line_after : End Refusal → Bool → ℕ → List ℕ
last_line_after (refused line reason) over number = []
last_line_after through over number = if over then [] else refusal_line number NoEnd

abbrev pub last_end_after : End Refusal → Bool → ℕ → End Refusal
last_end_after (refused line reason) over number = refused line reason
last_end_after through over number = if over then through else refused number NoEnd

abbrev pub has_end : List TextLine → Bool
has_end lines = is_over (said_of (reverse lines))

abbrev pub transcript_of : Airs → List Account → List TextLine → List ℕ
transcript_of airs starts lines =
    out_of airs starts lines ++ last_line_after (end_after airs starts lines) (has_end lines) (length lines + 1)

abbrev pub transcript_end : Airs → List Account → List TextLine → End Refusal
transcript_end airs starts lines = last_end_after (end_after airs starts lines) (has_end lines) (length lines + 1)

-- what the lines hand up before the first refusal, in order
abbrev pub units_of : Airs → List Account → List TextLine → List SinkUnit
units_of airs starts lines = handed_up airs (steps_of airs (accepted_of (rules_of airs starts) [] lines))
