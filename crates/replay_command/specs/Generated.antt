-- What a call of `replay` promises of the outside before it and after it, by its status, where its words mean generation: the
-- scenario of the generator is run, and the summary of its transcript written. The program is this project's own.
use Rattle.std.specs.Prelude.{ℕ, ◌≡◌}
use Rattle.replay_generated.specs.Generated.{GeneratedRun}
use Rattle.replay_generated.specs.declared.outcome.Outcome.{Outcome}
use Rattle.replay_command.specs.declared.status.Status.{Status}
use Rattle.replay_command.specs.Statuses.{status_after}
use Rattle.replay_lines.specs.World.{World}

pub record Generated (seed events : ℕ) (old new : World) (status : Status) : Type 0 where
  -- The status tells how the run ended, so that neither Usage nor ReadFault comes.
  pub outcome : Outcome
  pub told : status ≡ status_after outcome
  -- By that: the summary was written, or a prefix of it, or nothing, and the boxes took what the run handed up.
  pub run : GeneratedRun seed events outcome old.boxes new.boxes old.taken new.taken old.writes new.writes
  pub left : new.left ≡ old.left
  pub reads : new.reads ≡ old.reads
