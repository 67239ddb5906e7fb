-- What a call of `replay` promises of the outside before it and after it, by its status, where its words ask for a document: it is read
-- whole, and the lines that it stands for are run. The program is this project's own.
use Rattle.std.specs.Prelude.{◌≡◌}
use Rattle.replay_lines.specs.World.{World}
use Rattle.replay_lines.specs.FromToml.{FromToml, TomlEnding}
use Rattle.replay_command.specs.Statuses.{status_in_toml}
use Rattle.replay_command.specs.declared.status.Status.{Status}

pub record FromDocument (old new : World) (status : Status) : Type 0 where
  -- The status tells how the run ended, so that Usage doesn't come.
  pub ended : TomlEnding
  pub told : status ≡ status_in_toml ended
  -- By that: the transcript of the document was written, or a prefix of it, and the boxes took its units, or a prefix of them.
  pub run : FromToml old new ended
