-- What a generated run did, by how it ended: `starts` and `ends` are the accounts of the boxes before and after it, `kept`
-- and `kept'` what the sink had taken, `faults` and `faults'` its count of faults. The generator and the summary are this
-- project's own.
use Rattle.std.specs.Prelude.{ℕ, ◌≡◌, ◌≢◌, ◌<◌, ◌≤◌, true, List, [], ◌∷◌, ◌++◌, length, reverse, Option}
use Rattle.std.specs.Io.KnownBytes.{Appends}
use Rattle.bcast_base.specs.Counts.{Rose}
use Rattle.bcast_io.specs.TextLines.{TextLine, lines_of}
use Rattle.bcast_io.specs.Writing.{AppendsShort}
use Rattle.unit_outlets.specs.Account.{Account}
use Rattle.transcript_text.specs.declared.refusal.Refusal.{Refusal}
use Rattle.transcript_text.specs.declared.refusal.Refusal.TheVariants.{NoOutlet}
use Rattle.transcript_text.specs.Summary.{summary}
use Rattle.scenario_history.specs.Runs.{End, through, refused, Accepted}
use Rattle.scenario_lines.specs.Generated.{generated}
use Rattle.scenario_history.specs.Airs.{MeetAirs}
use Rattle.scenario_history.specs.Boxes.{RoomFor, SinkUnit, Took}
use Rattle.scenario_history.specs.Lines.{rules_of, handed_on}
use Rattle.source_machine.specs.Airs.{Airs}
use Rattle.scenario_history.specs.Transcript.{transcript_of, transcript_end, units_of}
use Rattle.scenario_sinks.specs.Faults.{CountsStay, OneCounts}
use Rattle.scenario_sinks.specs.Handing.{BoxFails}
use Rattle.replay_generated.specs.declared.outcome.Outcome.{Outcome}
use Rattle.replay_generated.specs.declared.outcome.Outcome.TheVariants as outcomes

abbrev pub lines_made : ℕ → ℕ → List TextLine
lines_made seed events = lines_of true (generated seed events)

abbrev pub summary_in : Airs → List Account → ℕ → List TextLine → List ℕ
summary_in airs starts events lines = summary events (transcript_of airs starts lines)

pub record Summed (airs : Airs) (starts ends : List Account) (events : ℕ) (lines : List TextLine) (kept kept' : Option (List ℕ)) (end : End Refusal) : Type 0 where
  pub ends_so : transcript_end airs starts lines ≡ end
  pub written : Appends kept kept' (summary_in airs starts events lines)
  pub boxes : Took starts ends (units_of airs starts lines)

-- a prefix of the summary was written, and not all, and the boxes took a prefix of the units
pub record CutShort (airs : Airs) (starts ends : List Account) (events : ℕ) (lines : List TextLine) (kept kept' : Option (List ℕ)) : Type 0 where
  pub written : AppendsShort kept kept' (summary_in airs starts events lines)
  pub done : List SinkUnit
  pub rest : List SinkUnit
  pub split : units_of airs starts lines ≡ done ++ rest
  pub boxes : Took starts ends done

-- the lines before one were run, and none is refused; the box of a unit that this line hands up failed
pub record BoxFailed (airs : Airs) (starts ends : List Account) (lines : List TextLine) : Type 0 where
  pub earlier : List TextLine
  pub line : TextLine
  pub later : List TextLine
  pub comes : lines ≡ reverse earlier ++ line ∷ later
  pub accepted : Accepted (rules_of airs starts) (line ∷ earlier)
  pub accounts : List Account
  pub before : Took starts accounts (units_of airs starts (reverse earlier))
  pub told : List ℕ
  pub fails : BoxFails (handed_on airs earlier line) [] told accounts ends

abbrev pub EndedOver : Airs → ℕ → List TextLine → Outcome → List Account → List Account → Option (List ℕ) → Option (List ℕ) → Type 0
EndedOver airs events lines outcomes.Done starts ends kept kept' = Summed airs starts ends events lines kept kept' through
EndedOver airs events lines (outcomes.Refused line reason) starts ends kept kept' = Summed airs starts ends events lines kept kept' (refused line reason)
EndedOver airs events lines outcomes.OutletFault starts ends kept kept' = BoxFailed airs starts ends lines × Appends kept kept' []
EndedOver airs events lines outcomes.WriteFault starts ends kept kept' = CutShort airs starts ends events lines kept kept'
EndedOver airs events lines outcomes.Memory starts ends kept kept' = CutShort airs starts ends events lines kept kept'

abbrev pub Did : ℕ → ℕ → Outcome → List Account → List Account → Option (List ℕ) → Option (List ℕ) → Type 0
Did seed events outcome starts ends kept kept' =
    (airs : Airs) → MeetAirs airs → EndedOver airs events (lines_made seed events) outcome starts ends kept kept'

abbrev pub IsDoneOrMemory : Outcome → Type 0
IsDoneOrMemory outcomes.Done = Unit {0}
IsDoneOrMemory outcomes.Memory = Unit {0}
IsDoneOrMemory _ = ⊥

pub record GeneratedRun (seed events : ℕ) (outcome : Outcome) (starts ends : List Account) (kept kept' : Option (List ℕ)) (faults faults' : ℕ) : Type 0 where
  -- Done: the transcript of the generated text has no refusal, and its summary was written.
  pub done : outcome ≡ outcomes.Done → Did seed events outcomes.Done starts ends kept kept'
  -- Refused: that transcript ends with this refusal of this line, and its summary was written.
  pub refused : (line : ℕ) (reason : Refusal) → outcome ≡ outcomes.Refused line reason → Did seed events (outcomes.Refused line reason) starts ends kept kept'
  -- Refused comes only where no box is left for a sink, of which there are two.
  pub no_outlet : (line : ℕ) (reason : Refusal) → outcome ≡ outcomes.Refused line reason → (reason ≡ NoOutlet) × (length starts < 2)
  -- OutletFault: the box of a unit counted a fault, and nothing was written.
  pub outlet_fault : outcome ≡ outcomes.OutletFault → Did seed events outcomes.OutletFault starts ends kept kept'
  -- WriteFault: the sink counted a fault, and a prefix of the summary was written.
  pub write_fault : outcome ≡ outcomes.WriteFault → Rose faults faults' × Did seed events outcomes.WriteFault starts ends kept kept'
  -- Memory: a prefix of the summary was written.
  pub memory : outcome ≡ outcomes.Memory → Did seed events outcomes.Memory starts ends kept kept'
  pub no_write_fault : outcome ≢ outcomes.WriteFault → faults' ≡ faults
  -- Each box's count stays with each outcome but OutletFault, with which that of one box changes.
  pub no_outlet_fault : outcome ≢ outcomes.OutletFault → CountsStay starts ends
  pub one_outlet_fault : OneCounts starts ends
  -- With two boxes or more, each with room for the valid units of its sink, and a sink that counts no fault, it is Done or Memory.
  pub complete : (airs : Airs) → MeetAirs airs → 2 ≤ length starts → RoomFor starts (units_of airs starts (lines_made seed events)) → ¬ Rose faults faults'
      → IsDoneOrMemory outcome
