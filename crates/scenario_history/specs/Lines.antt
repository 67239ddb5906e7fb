-- The lines of a scenario, which is this project's own, as its steps. Lists of lines and of steps have the newest first.
use Rattle.std.specs.Prelude.{ℕ, List, [], ◌∷◌, length, Option, None, Some, Result, Ok, Err}
use Rattle.bcast_io.specs.TextLines.{TextLine, plain, too_long, past}
use Rattle.unit_outlets.specs.Account.{Account}
use Rattle.scenario_text.specs.declared.step.Step.{Step}
use Rattle.scenario_words.specs.declared.fault.LineFault.{LineFault}
use Rattle.scenario_words.specs.declared.fault.LineFault.TheVariants.{BadLine as Misfit}
use Rattle.scenario_text.specs.Steps.{read_of}
use Rattle.transcript_text.specs.declared.refusal.Refusal.{Refusal}
use Rattle.transcript_text.specs.declared.refusal.Refusal.TheVariants.{TextTooLong, LineTooLong, BadLine}
use Rattle.transcript_text.specs.Lines.{refusal_line}
use Rattle.scenario_history.specs.Runs.{Rules}
use Rattle.scenario_history.specs.Steps.{version_of}
use Rattle.source_machine.specs.Airs.{Airs}
use Rattle.scenario_history.specs.Boxes.{SinkUnit, handed_by}
use Rattle.scenario_history.specs.RelayedUnits.{happened}
use Rattle.scenario_history.specs.Refusals.{line_refusal}
use Rattle.scenario_history.specs.Output.{output_of}

-- what a line is: a step, an empty line or a comment, or refused by itself
pub data Said : Type 0 where
  a_step : Step → Said
  nothing : Said
  unsaid : Refusal → Said

abbrev pub said_by : Result (Option Step) LineFault → Said
said_by (Ok (Some step)) = a_step step
said_by (Err (Misfit word)) = unsaid (BadLine word)
said_by _ = nothing

abbrev pub said_in : ℕ → TextLine → Said
said_in version (plain octets) = said_by (read_of version octets)
said_in version too_long = unsaid LineTooLong
said_in version past = unsaid TextTooLong

abbrev pub with_said : Said → List Step → List Step
with_said (a_step step) steps = step ∷ steps
with_said _ steps = steps

-- what the lines say: their steps, each read in the version of those before it
abbrev pub said_of : List TextLine → List Step
said_of [] = []
said_of (line ∷ earlier) = with_said (said_in (version_of (said_of earlier)) line) (said_of earlier)

abbrev pub steps_of : Airs → List TextLine → List Step
steps_of airs lines = happened airs (said_of lines)

abbrev pub said_after : List TextLine → TextLine → Said
said_after lines line = said_in (version_of (said_of lines)) line

abbrev pub refusal_said : Airs → ℕ → List Step → Said → Option Refusal
refusal_said airs boxes steps (a_step step) = line_refusal airs boxes steps step
refusal_said airs boxes steps nothing = None
refusal_said airs boxes steps (unsaid reason) = Some reason

abbrev pub output_said : Airs → List Account → List Step → Said → List ℕ
output_said airs starts steps (a_step step) = output_of airs starts steps step
output_said airs starts steps _ = []

abbrev pub rules_of : Airs → List Account → Rules TextLine Refusal
rules_of airs starts = record {
  refusal = λ lines line. refusal_said airs (length starts) (steps_of airs lines) (said_after lines line);
  output = λ lines line. output_said airs starts (steps_of airs lines) (said_after lines line);
  refused_line = refusal_line;
}

abbrev pub handed_said : Airs → List Step → Said → List SinkUnit
handed_said airs steps (a_step step) = handed_by airs steps step
handed_said airs steps _ = []

abbrev pub handed_on : Airs → List TextLine → TextLine → List SinkUnit
handed_on airs lines line = handed_said airs (steps_of airs lines) (said_after lines line)
