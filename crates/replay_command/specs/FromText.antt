-- What a call of `replay` promises of the outside before it and after it, by its status, where its words mean replay: the lines
-- of the text that the source gives are run. The program is this project's own.
use Rattle.std.specs.Prelude.{◌≡◌}
use Rattle.replay_lines.specs.Promised.{Promised}
use Rattle.replay_lines.specs.World.{World}
use Rattle.replay_lines.specs.declared.ending.Ending.{Ending}
use Rattle.replay_command.specs.Statuses.{status_at}
use Rattle.replay_command.specs.declared.status.Status.{Status}

pub record FromText (old new : World) (status : Status) : Type 0 where
  -- The status tells how the run ended, so that Usage doesn't come.
  pub ending : Ending
  pub told : status ≡ status_at ending
  -- By that: the transcript was written, or a prefix of it, the boxes took its units, or a prefix of them, and its laws hold.
  pub run : Promised old new ending
