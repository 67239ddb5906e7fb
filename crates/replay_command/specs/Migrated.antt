-- What a call of `replay` promises of the outside before it and after it, by its status, where its words mean migration: the
-- text of the source is written in version 2. The program is this project's own.
use Rattle.std.specs.Prelude.{ℕ, ◌≡◌, ◌≢◌, ◌≤◌, ◌⊎◌, List, length, Some}
use Rattle.bcast_base.specs.Counts.{Rose}
use Rattle.bcast_io.specs.TextLines.{text_limit}
use Rattle.transcript_text.specs.declared.refusal.Refusal.{Refusal}
use Rattle.transcript_text.specs.declared.refusal.Refusal.TheVariants.{TextTooLong}
use Rattle.replay_migration.specs.TextRead.{IsTooLong}
use Rattle.replay_migration.specs.Ended.{WroteText, WroteRefusal, WroteNothing, WroteShort, WrotePrefix, RanOut}
use Rattle.replay_command.specs.declared.status.Status.{Status}
use Rattle.replay_command.specs.declared.status.Status.TheVariants as statuses
use Rattle.replay_lines.specs.World.{World}

pub record Migrated (old new : World) (status : Status) : Type 0 where
  -- Done: the text was read to its end, and was written in version 2.
  pub done : status ≡ statuses.Done → WroteText old.left new.left old.taken new.taken
  -- Refused: only TextTooLong, with the line that holds octet 67,108,865; the line of the refusal alone was written.
  pub refused : (line : ℕ) (reason : Refusal) → status ≡ statuses.Refused line reason
      → (reason ≡ TextTooLong) × WroteRefusal old.left new.left old.taken new.taken line
  -- ReadFault: the source counted a fault before it gave octet 67,108,865, and nothing was written.
  pub read_fault : status ≡ statuses.ReadFault → Rose old.reads new.reads × WroteNothing old.left new.left old.taken new.taken
  -- WriteFault: the sink counted a fault, and a prefix of the text in version 2, or of the line of the refusal, was written.
  pub write_fault : status ≡ statuses.WriteFault → Rose old.writes new.writes × WroteShort old.left new.left old.taken new.taken
  -- Memory: such a prefix was written, or nothing where memory ran out before all was read.
  pub memory : status ≡ statuses.Memory → RanOut old.left new.left old.taken new.taken ⊎ WrotePrefix old.left new.left old.taken new.taken
  pub no_usage : status ≢ statuses.Usage
  pub no_outlet_fault : status ≢ statuses.OutletFault
  pub no_read_fault : status ≢ statuses.ReadFault → new.reads ≡ old.reads
  pub no_write_fault : status ≢ statuses.WriteFault → new.writes ≡ old.writes
  -- A text that the source tells is Done only where it has at most 67,108,864 octets, and Refused only where it has more.
  pub within : (text : List ℕ) → old.left ≡ Some text → status ≡ statuses.Done → length text ≤ text_limit
  pub too_long : (text : List ℕ) → old.left ≡ Some text → (line : ℕ) (reason : Refusal) → status ≡ statuses.Refused line reason → IsTooLong text line
  pub boxes : new.boxes ≡ old.boxes
