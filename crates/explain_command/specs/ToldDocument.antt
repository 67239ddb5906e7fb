-- What an explanation of a document promises of the outside before it and after it, by how it ended. The form of documents and the
-- program are this project's own.
use Rattle.std.specs.Prelude.{ℕ, ◌≡◌, ◌≢◌, ◌⊎◌, true, List, Option, None, Some, Ok, Err}
use Rattle.std.specs.Io.KnownBytes.{Keeps}
use Rattle.bcast_base.specs.Counts.{Rose}
use Rattle.explained_rows.specs.Rows.{line_row}
use Rattle.explain_command.specs.Told.{EndsSo}
use Rattle.replay_lines.specs.Documents.{DocumentIs}
use Rattle.replay_lines.specs.FromToml.{FromToml, TomlEnding}
use Rattle.replay_lines.specs.Heard.{as_told}
use Rattle.replay_lines.specs.Listening.{Told as LinesTold}
use Rattle.replay_lines.specs.Standing.{stands_for}
use Rattle.replay_lines.specs.State.Runs.{Refuses}
use Rattle.replay_lines.specs.World.{World}
use Rattle.replay_lines.specs.declared.cause.Cause.{Cause}
use Rattle.replay_lines.specs.declared.ending.Ending.{Ending}
use Rattle.replay_lines.specs.declared.ending.Ending.TheVariants as endings

-- What an ending of a document says of the octets that were written, beside notes that may fail: a write fault may be theirs, and says no
-- more of them than want of memory does.
abbrev pub as_told_of : TomlEnding → TomlEnding
as_told_of (Ok ending) = Ok (as_told true ending)
as_told_of (Err cause) = Err cause

-- how an explanation of a document ends that was stopped by a fault
abbrev pub stopped_for : Ending → TomlEnding
stopped_for fault = Ok fault

-- What the run of a document promises beside notes that may fail.
pub record HeardDocument (old new : World) (result : TomlEnding) : Type 0 where
  pub run : FromToml old (record { left = new.left; reads = new.reads; taken = new.taken; writes = old.writes; boxes = new.boxes })
      (as_told_of result)
  -- WriteFault comes where the sink counted a fault, and with each other ending its count stays.
  pub write_fault : result ≡ Ok endings.WriteFault → Rose old.writes new.writes
  pub no_write_fault : result ≢ Ok endings.WriteFault → new.writes ≡ old.writes

-- The document stands for the lines of a text, and the rows that tell lines were put for these in order, each with its number from 1, up
-- to the line at which the run ended: `before` and `after` are those rows, and `rest` is what was left of the text.
pub record TellsLines (left left' before after : Option (List ℕ)) (ending : Ending) : Type 0 where
  pub text : List ℕ
  pub document : DocumentIs left left' (stands_for text)
  pub rest : Option (List ℕ)
  pub told : LinesTold line_row (Some text) rest (record { told = None; rows = before }) (record { told = None; rows = after }) ending

-- endings that may come before a line was run
abbrev pub IsBeforeLines : Ending → Type 0
IsBeforeLines endings.ReadFault = Unit {0}
IsBeforeLines endings.WriteFault = Unit {0}
IsBeforeLines endings.Memory = Unit {0}
IsBeforeLines _ = ⊥

-- Where no line was run, none is told.
abbrev pub LinesOf : Option (List ℕ) → Option (List ℕ) → Option (List ℕ) → Option (List ℕ) → TomlEnding → Type 0
LinesOf left left' before after (Ok ending) = TellsLines left left' before after ending ⊎ (IsBeforeLines ending × Keeps before after)
LinesOf left left' before after (Err cause) = Keeps before after

-- `before` and `after` are the rows among the sink's octets that tell lines of the scenario.
pub record ToldDocument (old new : World) (before after : Option (List ℕ)) (result : TomlEnding) : Type 0 where
  -- how the run of the document ended
  pub ran : TomlEnding
  -- what the sink was seen to have taken of the transcript then, and its count of faults
  pub taken : Option (List ℕ)
  pub writes : ℕ
  -- The run did what is promised of the run of a document: the sink took the transcript of the lines that it stands for, the line of its
  -- refusal, or the part of it that this ending tells.
  pub run : HeardDocument old (record { left = new.left; reads = new.reads; taken = taken; writes = writes; boxes = new.boxes }) ran
  -- the rows that tell lines are those of the lines that it stands for
  pub lines : Option (List ℕ)
  pub told : LinesOf old.left new.left before lines ran
  pub lines_kept : Keeps lines after
  -- the notes behind the last line leave that
  pub kept : Keeps taken new.taken
  pub ends : EndsSo stopped_for ran result writes new.writes

-- A document was refused for this cause: the line of the refusal was put, or a prefix of it, and notes behind it, which may have failed.
pub record RefusalTold (cause : Cause) (kept kept' : Option (List ℕ)) (writes writes' : ℕ) (before after : Option (List ℕ))
    (result : TomlEnding) : Type 0 where
  pub ran : TomlEnding
  pub taken : Option (List ℕ)
  pub then_writes : ℕ
  pub puts : Refuses cause kept taken ran
  pub write_fault : ran ≡ Ok endings.WriteFault → Rose writes then_writes
  pub no_write_fault : ran ≢ Ok endings.WriteFault → then_writes ≡ writes
  pub lines_kept : Keeps before after
  pub taken_kept : Keeps taken kept'
  pub ends : EndsSo stopped_for ran result then_writes writes'
