-- What a call of `replay` promises by its words: what they mean says which promises hold. The program is this project's own.
use Rattle.std.specs.Prelude.{ℕ, ◌≡◌, ◌⊎◌, List}
use Rattle.replay_words.specs.Words.{mode_of}
use Rattle.replay_words.specs.declared.mode.Mode.{Mode}
use Rattle.replay_words.specs.declared.mode.Mode.TheVariants as modes
use Rattle.replay_command.specs.declared.status.Status.{Status}
use Rattle.replay_command.specs.declared.status.Status.TheVariants as statuses
use Rattle.replay_command.specs.FromDocument.{FromDocument}
use Rattle.replay_command.specs.FromText.{FromText}
use Rattle.replay_command.specs.Migrated.{Migrated}
use Rattle.replay_command.specs.Generated.{Generated}
use Rattle.replay_lines.specs.World.{World}

-- nothing is run for words of this mode
abbrev pub IsNone : Mode → Type 0
IsNone modes.Usage = Unit {0}
IsNone _ = ⊥

pub record PromisedIn (mode : Mode) (old new : World) (status : Status) : Type 0 where
  pub replay : mode ≡ modes.Replay → FromText old new status
  pub migrated : mode ≡ modes.Migrate → Migrated old new status
  pub document : mode ≡ modes.Toml → FromDocument old new status
  pub generated : (seed events : ℕ) → mode ≡ modes.Generate seed events → Generated seed events old new status
  -- All other words are Usage. Where memory ran out before they were read, the status is Memory; nothing happened then either.
  pub usage : IsNone mode → ((status ≡ statuses.Usage) ⊎ (status ≡ statuses.Memory)) × (new ≡ old)

abbrev pub PromisedFor : List (List ℕ) → World → World → Status → Type 0
PromisedFor words old new status = PromisedIn (mode_of words) old new status
