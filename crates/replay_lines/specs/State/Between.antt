-- What stands between two lines of a run: the lines so far are its history, the newest first. Runs and lines are this
-- project's own.
use Rattle.std.specs.Prelude.{ℕ, ◌≡◌, ◌+◌, Bool, true, false, List, [], ◌∷◌, ◌++◌, length, reverse, Option, None, Some, Result, Ok, Err}
use Rattle.std.specs.Io.KnownBytes.{Appends, Consumes, IsAtEnd}
use Rattle.bcast_io.specs.TextLines.{TextLine, plain, too_long, past, lines_of}
use Rattle.bcast_io.specs.State.Reading.{Reading, IsSound, MayFollow, lines_after}
use Rattle.bcast_io.specs.Writing.{AppendsPrefix, AppendsShort}
use Rattle.bcast_io.specs.declared.line_reader.LineRead.{LineRead}
use Rattle.bcast_io.specs.declared.line_reader.LineRead.TheVariants.{Line, LineTooLong, TextTooLong, End}
use Rattle.bcast_io.specs.declared.source.Failed.{Failed}
use Rattle.unit_outlets.specs.Account.{Account}
use Rattle.source_machine.specs.Airs.{airs_of}
use Rattle.transcript_text.specs.declared.refusal.Refusal.{Refusal}
use Rattle.transcript_text.specs.Lines.{refusal_line}
use Rattle.scenario_history.specs.Runs.{brought, Accepted}
use Rattle.scenario_history.specs.Lines.{rules_of}
use Rattle.replay_steps.specs.declared.machine.Machine.{Machine}
use Rattle.replay_lines.specs.declared.ending.Ending.{Ending}
use Rattle.replay_lines.specs.declared.ending.Ending.TheVariants as endings
use Rattle.replay_steps.specs.LineMeets.{LinesStand}
use Rattle.replay_lines.specs.Replayed.{TextRead, Comes, ReadsAhead}
use Rattle.replay_lines.specs.Ended.{Ended}
use Rattle.replay_lines.specs.Heard.{as_told}

-- A run took so many octets from its source that the reader passed these lines, and nothing of the next: whatever
-- follows, the lines of all are these and then those that the reader gives.
pub record ReadTo (left left' : Option (List ℕ)) (lines : List TextLine) (reader : Reading) : Type 0 where
  pub passed : List ℕ
  pub consumed : Consumes left left' (passed ++ reader.ahead)
  pub begins : (at_end : Bool) (more : List ℕ) → MayFollow reader.over at_end more
      → lines_of at_end (passed ++ more) ≡ reverse lines ++ lines_after at_end reader more
  pub count : reader.taken ≡ length passed
  pub anew : reader.part ≡ []
  pub at_end : reader.over ≡ true → IsAtEnd left'
  pub sound : IsSound reader

-- a run took a text of these lines from its source, to its end or to a fault
pub record TextIs (left left' : Option (List ℕ)) (lines : List TextLine) (over : Bool) : Type 0 where
  pub text : List ℕ
  pub read : TextRead left left' text over
  pub whole : lines_of over text ≡ reverse lines

-- what a reader gave after these lines
abbrev pub NextIs : Option (List ℕ) → Option (List ℕ) → List TextLine → Reading → Result LineRead Failed → Type 0
NextIs left left' lines new (Ok Line) = (octets : List ℕ) × (new.line ≡ Some octets) × ReadTo left left' (plain octets ∷ lines) new
NextIs left left' lines new (Ok LineTooLong) = ReadTo left left' (too_long ∷ lines) new
NextIs left left' lines new (Ok TextTooLong) = Comes left left' lines past × ReadsAhead left left' (length lines + 1)
NextIs left left' lines new (Ok End) = TextIs left left' lines true
NextIs left left' lines new (Err failed) = TextIs left left' lines false

-- the lines were run, and what they brought was written
pub record RunTo (starts : List Account) (lines : List TextLine) (kept kept' : Option (List ℕ)) (machine : Machine) (accounts : List Account) : Type 0 where
  pub accepted : Accepted (rules_of airs_of starts) lines
  pub written : Appends kept kept' (brought (rules_of airs_of starts) lines)
  pub stands : LinesStand starts lines machine accounts

-- the line of a refusal was put to a sink
abbrev pub Refuses : ℕ → Refusal → Option (List ℕ) → Option (List ℕ) → Ending → Type 0
Refuses number reason kept kept' (endings.Refused line why) =
    (line ≡ number) × (why ≡ reason) × Appends kept kept' (refusal_line number reason)
Refuses number reason kept kept' endings.WriteFault = AppendsShort kept kept' (refusal_line number reason)
Refuses number reason kept kept' endings.Memory = AppendsPrefix kept kept' (refusal_line number reason)
Refuses number reason kept kept' _ = ⊥

-- octets were put to a sink, or why not all of them
abbrev pub Puts : List ℕ → Option (List ℕ) → Option (List ℕ) → Option Ending → Type 0
Puts octets kept kept' None = Appends kept kept' octets
Puts octets kept kept' (Some endings.WriteFault) = AppendsShort kept kept' octets
Puts octets kept kept' (Some endings.Memory) = AppendsShort kept kept' octets
Puts octets kept kept' (Some _) = ⊥

-- a line after these was run, or the run ended at it
abbrev pub StepRuns : List Account → List TextLine → Option (List ℕ) → Option (List ℕ) → Option (List ℕ) → Option (List ℕ) → Machine → List Account → Option Ending → Type 0
StepRuns starts lines left left' kept kept' machine accounts None = RunTo starts lines kept kept' machine accounts
StepRuns starts lines left left' kept kept' machine accounts (Some ending) = Ended airs_of ending starts accounts left left' kept kept'

-- the same beside a listener that may fail (`true`) or may not
abbrev pub StepHeard : Bool → List Account → List TextLine → Option (List ℕ) → Option (List ℕ) → Option (List ℕ) → Option (List ℕ) → Machine → List Account → Option Ending → Type 0
StepHeard may_fail starts lines left left' kept kept' machine accounts None = RunTo starts lines kept kept' machine accounts
StepHeard may_fail starts lines left left' kept kept' machine accounts (Some ending) =
    Ended airs_of (as_told may_fail ending) starts accounts left left' kept kept'

-- the next line was read and run beside such a listener, or the run ended
abbrev pub LineRuns : Bool → List Account → List TextLine → Option (List ℕ) → Option (List ℕ) → Option (List ℕ) → Option (List ℕ) → Reading → Machine → List Account → Option Ending → Type 0
LineRuns may_fail starts lines left left' kept kept' reader machine accounts None =
    (line : TextLine) × ReadTo left left' (line ∷ lines) reader × RunTo starts (line ∷ lines) kept kept' machine accounts
LineRuns may_fail starts lines left left' kept kept' reader machine accounts (Some ending) =
    Ended airs_of (as_told may_fail ending) starts accounts left left' kept kept'
