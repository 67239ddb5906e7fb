-- What an explanation promises of the outside before it and after it, by how it ended. Of a world's `taken` it tells what the sink's
-- octets tell of a transcript. The program is this project's own.
use Rattle.std.specs.Prelude.{ℕ, ◌≡◌, ◌⊎◌, List, Option, None}
use Rattle.std.specs.Io.KnownBytes.{Keeps}
use Rattle.bcast_base.specs.Counts.{Rose}
use Rattle.explained_rows.specs.Rows.{Rows, line_row, told_at}
use Rattle.replay_lines.specs.Heard.{Heard}
use Rattle.replay_lines.specs.Listening.{Told as LinesTold}
use Rattle.replay_lines.specs.World.{World}
use Rattle.unit_outlets.specs.Account.{Account}
use Rattle.replay_lines.specs.declared.ending.Ending.{Ending}
use Rattle.replay_lines.specs.declared.ending.Ending.TheVariants.{WriteFault, Memory}

-- the outside of an explanation: what the source has left and its count of faults, the rows, by what their sink tells, and the boxes
abbrev pub told_world : {W : Type 0} → Option (List ℕ) → ℕ → (W → Option (List ℕ)) → (W → ℕ) → Rows W → List Account → World
told_world left reads taken writes rows boxes = record {
  left = left;
  reads = reads;
  taken = told_at rows.place (taken rows.inner);
  writes = writes rows.inner;
  boxes = boxes;
}

-- The explanation ends as its run did, unless the notes behind its last line could not be written: `writes` and `writes'` are the sink's
-- counts of faults before and after that, and `stopped` is how an explanation ends that was stopped so.
abbrev pub EndsSo : {A : Type 0} → (Ending → A) → A → A → ℕ → ℕ → Type 0
EndsSo stopped ran ended writes writes' =
    ((ended ≡ ran) × (writes' ≡ writes)) ⊎ ((ended ≡ stopped WriteFault) × Rose writes writes') ⊎ ((ended ≡ stopped Memory) × (writes' ≡ writes))

-- `before` and `after` are the rows among the sink's octets that tell lines of the scenario.
pub record Told (old new : World) (before after : Option (List ℕ)) (ending : Ending) : Type 0 where
  -- how the run of the lines ended
  pub ran : Ending
  -- what the sink was seen to have taken of the transcript then, and its count of faults
  pub taken : Option (List ℕ)
  pub writes : ℕ
  -- The run did what is promised of a run with a listener: the sink took the transcript of the text, or the part of it that this ending
  -- tells.
  pub run : Heard old (record { left = new.left; reads = new.reads; taken = taken; writes = writes; boxes = new.boxes }) ran
  -- The rows that tell lines were put for the lines of the text in order, each with its number from 1, up to the line at which the run
  -- ended; of the line before which it failed a prefix.
  pub lines : Option (List ℕ)
  pub told : LinesTold line_row old.left new.left (record { told = None; rows = before }) (record { told = None; rows = lines }) ran
  pub lines_kept : Keeps lines after
  -- the notes behind the last line leave that
  pub kept : Keeps taken new.taken
  pub ends : EndsSo (λ fault. fault) ran ending writes new.writes
