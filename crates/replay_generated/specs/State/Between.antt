-- What stands between two lines of a generated run: the lines so far are its history, the newest first. Runs and lines are
-- this project's own.
use Rattle.std.specs.Prelude.{ℕ, ◌≡◌, ◌≢◌, ◌⊎◌, ◌+◌, List, [], ◌∷◌, ◌++◌, length, Option, None, Some}
use Rattle.std.specs.Io.KnownBytes.{Appends}
use Rattle.bcast_base.specs.Counts.{Rose}
use Rattle.bcast_io.specs.TextLines.{TextLine}
use Rattle.bcast_io.specs.Writing.{AppendsShort}
use Rattle.unit_outlets.specs.Account.{Account}
use Rattle.source_machine.specs.Airs.{airs_of}
use Rattle.transcript_text.specs.declared.refusal.Refusal.{Refusal}
use Rattle.transcript_text.specs.Lines.{refusal_line}
use Rattle.transcript_text.specs.CountedLines.{lines_of, IsWhole}
use Rattle.transcript_text.specs.Summary.{counts_of, with_lines}
use Rattle.transcript_text.specs.declared.counts.Counts.{Counts}
use Rattle.scenario_history.specs.Runs.{End, through, refused, brought, Accepted}
use Rattle.scenario_history.specs.Boxes.{SinkUnit, Took}
use Rattle.scenario_history.specs.Lines.{rules_of, handed_on}
use Rattle.scenario_history.specs.Transcript.{transcript_of, transcript_end, units_of}
use Rattle.scenario_sinks.specs.Handing.{BoxFails, CutShort}
use Rattle.replay_steps.specs.LineMeets.{LinesStand, refusal_at}
use Rattle.replay_steps.specs.declared.machine.Machine.{Machine}
use Rattle.replay_generated.specs.Generated.{BoxFailed, EndedOver}
use Rattle.replay_generated.specs.declared.outcome.Outcome.{Outcome}
use Rattle.replay_generated.specs.declared.outcome.Outcome.TheVariants as outcomes
use Rattle.replay_generated.specs.declared.running.Ending.{Ending}
use Rattle.replay_generated.specs.declared.running.Ending.TheVariants as endings

-- ---- a line

-- the lines were run, and what they brought was counted
pub record RunTo (starts : List Account) (lines : List TextLine) (counts : Counts) (machine : Machine) (accounts : List Account) : Type 0 where
  pub accepted : Accepted (rules_of airs_of starts) lines
  pub whole : IsWhole (brought (rules_of airs_of starts) lines)
  pub counted : counts ≡ counts_of (brought (rules_of airs_of starts) lines)
  pub stands : LinesStand starts lines machine accounts

-- what was printed was counted beside what was counted before
abbrev pub Counted : List ℕ → Counts → Counts → Option Ending → Type 0
Counted text old new None = new ≡ with_lines old (lines_of text)
Counted text old new (Some endings.Memory) = Unit {0}
Counted text old new (Some _) = ⊥

-- the line of a refusal was counted
abbrev pub Refuses : ℕ → Refusal → Counts → Counts → Ending → Type 0
Refuses number reason old new (endings.Refused line why) =
    (line ≡ number) × (why ≡ reason) × (new ≡ with_lines old (lines_of (refusal_line number reason)))
Refuses number reason old new endings.Memory = Unit {0}
Refuses number reason old new _ = ⊥

-- the line is refused, nothing went to a box, and the line of the refusal was counted behind what the lines before it brought
pub record LineRefused (starts : List Account) (lines : List TextLine) (line : TextLine) (counts : Counts) (before after : List Account) (number : ℕ) (reason : Refusal) : Type 0 where
  pub number_is : number ≡ length lines + 1
  pub because : refusal_at starts lines line ≡ Some reason
  pub counted : counts ≡ counts_of (brought (rules_of airs_of starts) lines ++ refusal_line number reason)
  pub same : after ≡ before

-- a line after these was run, or the run ended at it
abbrev pub LineRuns : List Account → List TextLine → TextLine → Counts → Machine → List Account → List Account → Option Ending → Type 0
LineRuns starts lines line counts machine before after None = RunTo starts (line ∷ lines) counts machine after
LineRuns starts lines line counts machine before after (Some endings.Through) = ⊥
LineRuns starts lines line counts machine before after (Some (endings.Refused number reason)) = LineRefused starts lines line counts before after number reason
LineRuns starts lines line counts machine before after (Some endings.OutletFault) =
    (refusal_at starts lines line ≡ None) × ((told : List ℕ) × BoxFails (handed_on airs_of lines line) [] told before after)
LineRuns starts lines line counts machine before after (Some endings.Memory) =
    (after ≡ before) ⊎ ((refusal_at starts lines line ≡ None) × CutShort (handed_on airs_of lines line) before after)

-- ---- all lines

-- the transcript of these lines ends so, what it says was counted, and the boxes took its units
pub record Told (starts ends : List Account) (lines : List TextLine) (counts : Counts) (end : End Refusal) : Type 0 where
  pub ends_so : transcript_end airs_of starts lines ≡ end
  pub counted : counts ≡ counts_of (transcript_of airs_of starts lines)
  pub boxes : Took starts ends (units_of airs_of starts lines)

-- the boxes took a prefix of the units of these lines
pub record PrefixTaken (starts ends : List Account) (lines : List TextLine) : Type 0 where
  pub done : List SinkUnit
  pub rest : List SinkUnit
  pub split : units_of airs_of starts lines ≡ done ++ rest
  pub boxes : Took starts ends done

-- these lines were run, and the run ended so
abbrev pub Ran : List Account → List Account → List TextLine → Counts → Ending → Type 0
Ran starts ends lines counts endings.Through = Told starts ends lines counts through
Ran starts ends lines counts (endings.Refused line reason) = Told starts ends lines counts (refused line reason)
Ran starts ends lines counts endings.OutletFault = BoxFailed airs_of starts ends lines
Ran starts ends lines counts endings.Memory = PrefixTaken starts ends lines

-- ---- the summary

-- what was put to a sink
abbrev pub Puts : List ℕ → Outcome → Option (List ℕ) → Option (List ℕ) → ℕ → ℕ → Outcome → Type 0
Puts octets ended kept kept' faults faults' result =
    ((result ≡ ended) × Appends kept kept' octets × (faults' ≡ faults))
    ⊎ (((result ≡ outcomes.WriteFault) × AppendsShort kept kept' octets × Rose faults faults')
    ⊎ ((result ≡ outcomes.Memory) × AppendsShort kept kept' octets × (faults' ≡ faults)))

-- how a run ended, and what became of the sink's count
pub record Ends (starts ends : List Account) (events : ℕ) (lines : List TextLine) (kept kept' : Option (List ℕ)) (faults faults' : ℕ) (outcome : Outcome) : Type 0 where
  pub did : EndedOver airs_of events lines outcome starts ends kept kept'
  pub rose : outcome ≡ outcomes.WriteFault → Rose faults faults'
  pub stays : outcome ≢ outcomes.WriteFault → faults' ≡ faults
