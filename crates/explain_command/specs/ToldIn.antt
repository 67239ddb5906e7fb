-- What an explanation promises by what the source gives: a text or a document. The program is this project's own.
use Rattle.std.specs.Prelude.{◌≡◌, List, Option, ℕ}
use Rattle.replay_lines.specs.FromToml.{TomlEnding}
use Rattle.replay_lines.specs.World.{World}
use Rattle.replay_lines.specs.declared.ending.Ending.{Ending}
use Rattle.explain_command.specs.Statuses.{status_in_toml}
use Rattle.explain_command.specs.Told.{Told}
use Rattle.explain_command.specs.ToldDocument.{ToldDocument}
use Rattle.explain_command.specs.declared.program.Form.{Form}
use Rattle.explain_command.specs.declared.program.Form.TheVariants.{Lines, Toml}
use Rattle.explain_command.specs.declared.status.Status.{Status}
use Rattle.explain_command.specs.declared.status.Status.TheVariants.{Ended}

-- the text was explained, and the status tells how that ended
pub record ToldText (old new : World) (before after : Option (List ℕ)) (status : Status) : Type 0 where
  pub ending : Ending
  pub is : status ≡ Ended ending
  pub told : Told old new before after ending

-- the same of a document
pub record ToldToml (old new : World) (before after : Option (List ℕ)) (status : Status) : Type 0 where
  pub ended : TomlEnding
  pub is : status ≡ status_in_toml ended
  pub told : ToldDocument old new before after ended

abbrev pub ToldIn : Form → World → World → Option (List ℕ) → Option (List ℕ) → Status → Type 0
ToldIn Lines old new before after status = ToldText old new before after status
ToldIn Toml old new before after status = ToldToml old new before after status
