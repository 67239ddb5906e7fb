-- What a run of a text did, by its ending, and which endings can come. The endings are this project's own.
use Rattle.std.specs.Prelude.{ℕ, ◌≡◌, ◌≢◌, true, List, slice_get, Option, Some}
use Rattle.bcast_io.specs.TextLines.{lines_of}
use Rattle.unit_outlets.specs.Account.{Account}
use Rattle.bcast_base.specs.Counts.{Rose}
use Rattle.transcript_text.specs.declared.refusal.Refusal.TheVariants.{NoEnd}
use Rattle.source_machine.specs.Airs.{Airs}
use Rattle.scenario_history.specs.Runs.{through}
use Rattle.scenario_history.specs.Transcript.{transcript_end, units_of}
use Rattle.scenario_history.specs.Boxes.{RoomFor}
use Rattle.replay_lines.specs.declared.ending.Ending.{Ending}
use Rattle.replay_lines.specs.declared.ending.Ending.TheVariants as endings
use Rattle.replay_lines.specs.Replayed.{Done, RefusedAt, ReadFaulted, Broken, OutletFaulted, ReadsAhead, WriteCut}

abbrev pub Ended : Airs → Ending → List Account → List Account → Option (List ℕ) → Option (List ℕ) → Option (List ℕ) → Option (List ℕ) → Type 0
Ended airs endings.Done starts ends left left' kept kept' = Done airs starts ends left left' kept kept'
Ended airs (endings.Refused line reason) starts ends left left' kept kept' =
    RefusedAt airs starts ends left left' kept kept' line reason × (reason ≢ NoEnd → ReadsAhead left left' line)
Ended airs endings.ReadFault starts ends left left' kept kept' = ReadFaulted airs starts ends left left' kept kept'
Ended airs endings.WriteFault starts ends left left' kept kept' = Broken airs starts ends left left' kept kept' × WriteCut airs starts ends left left' kept kept'
Ended airs endings.OutletFault starts ends left left' kept kept' = OutletFaulted airs starts ends left left' kept kept'
Ended airs endings.Memory starts ends left left' kept kept' = Broken airs starts ends left left' kept kept'

-- the run ended by itself: no fault of the outside came
abbrev pub IsDoneOrMemory : Ending → Type 0
IsDoneOrMemory endings.Done = Unit {0}
IsDoneOrMemory endings.Memory = Unit {0}
IsDoneOrMemory _ = ⊥

abbrev pub IsNoFault : Ending → Type 0
IsNoFault endings.Done = Unit {0}
IsNoFault (endings.Refused line reason) = Unit {0}
IsNoFault endings.Memory = Unit {0}
IsNoFault _ = ⊥

-- the transcript was written to its end, or to its refusal
abbrev pub IsWhole : Ending → Type 0
IsWhole endings.Done = Unit {0}
IsWhole (endings.Refused line reason) = Unit {0}
IsWhole _ = ⊥

-- writing was cut short, or memory ran out
abbrev pub IsCut : Ending → Type 0
IsCut endings.WriteFault = Unit {0}
IsCut endings.Memory = Unit {0}
IsCut _ = ⊥

-- what was read past the line of a refusal other than NoEnd, or past that in which a write was cut; an outlet fault has the same itself
abbrev pub AheadOf : Airs → Ending → List Account → List Account → Option (List ℕ) → Option (List ℕ) → Option (List ℕ) → Option (List ℕ) → Type 0
AheadOf airs (endings.Refused line reason) starts ends left left' kept kept' = reason ≢ NoEnd → ReadsAhead left left' line
AheadOf airs endings.WriteFault starts ends left left' kept kept' = WriteCut airs starts ends left left' kept kept'
AheadOf airs _ starts ends left left' kept kept' = Unit {0}

-- no box counted a fault, and none stands at the last number of its count
abbrev pub NoneFailed : List Account → List Account → Type 0
NoneFailed starts ends =
    (box : ℕ) (before after : Account) → slice_get starts box ≡ Some before → slice_get ends box ≡ Some after → ¬ Rose before.faults after.faults

abbrev pub RoomForText : Airs → List Account → List ℕ → Type 0
RoomForText airs starts text = RoomFor starts (units_of airs starts (lines_of true text))

-- which endings come for this text, by the counts of the source (`read`), of the sink (`write`) and of the boxes, and by their room
pub record Complete (airs : Airs) (text : List ℕ) (starts ends : List Account) (read read' write write' : ℕ) (ending : Ending) : Type 0 where
  pub through_all : transcript_end airs starts (lines_of true text) ≡ through
      → ¬ Rose read read' → ¬ Rose write write' → NoneFailed starts ends → IsDoneOrMemory ending
  pub room : RoomForText airs starts text → ending ≢ endings.OutletFault
  pub no_fault : RoomForText airs starts text → ¬ Rose read read' → ¬ Rose write write' → IsNoFault ending
