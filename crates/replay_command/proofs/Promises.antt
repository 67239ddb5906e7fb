-- What is promised of a call, by what its words mean.
use Rattle.std.proofs.Common.{◌≡◌, ◌∙◌, ℕ, refl, sym, subst, Ok, Err, inr}
use Rattle.replay_lines.specs.Promised.{Promised}
use Rattle.replay_lines.specs.World.{World}
use Rattle.replay_lines.specs.declared.ending.Ending.TheVariants as endings
use Rattle.replay_words.specs.declared.mode.Mode.{Mode}
use Rattle.replay_words.specs.declared.mode.Mode.TheVariants as modes
use Rattle.replay_command.specs.ByWords.{IsNone, PromisedIn}
use Rattle.replay_lines.specs.FromToml.{FromToml, TomlEnding}
use Rattle.replay_command.specs.FromDocument.{FromDocument}
use Rattle.replay_command.specs.FromText.{FromText}
use Rattle.replay_command.specs.Generated.{Generated}
use Rattle.replay_command.specs.Migrated.{Migrated}
use Rattle.replay_command.specs.Statuses.{status_in_toml}
use Rattle.replay_command.specs.declared.status.Status.{Status}
use Rattle.replay_command.specs.declared.status.Status.TheVariants as statuses
use Rattle.replay_command.proofs.Generating.{generated_none}
use Rattle.replay_command.proofs.Migrating.{migrated_none}

-- the call of words that mean replay
pub in_replay : (mode : Mode) (old new : World) (status : Status) → mode ≡ modes.Replay → FromText old new status → PromisedIn mode old new status
in_replay mode old new status is run = record {
  replay = λ again. run;
  document = λ documents. absurd cc;
  migrated = λ migrates. absurd cc;
  generated = λ seed events generates. absurd cc;
  usage = λ none. absurd (let P : Mode → Type 0 = λ m. IsNone m in subst P is none);
}

-- the call of words that mean migration
pub in_migration : (mode : Mode) (old new : World) (status : Status) → mode ≡ modes.Migrate → Migrated old new status → PromisedIn mode old new status
in_migration mode old new status is migrated = record {
  replay = λ replays. absurd cc;
  migrated = λ again. migrated;
  document = λ documents. absurd cc;
  generated = λ seed events generates. absurd cc;
  usage = λ none. absurd (let P : Mode → Type 0 = λ m. IsNone m in subst P is none);
}

-- the call of words that mean generation
pub in_generation : (mode : Mode) (seed events : ℕ) (old new : World) (status : Status) → mode ≡ modes.Generate seed events → Generated seed events old new status
    → PromisedIn mode old new status
in_generation mode seed events old new status is generated = record {
  replay = λ replays. absurd cc;
  migrated = λ migrates. absurd cc;
  document = λ documents. absurd cc;
  generated = λ other more again.
      let same : modes.Generate seed events ≡ modes.Generate other more = sym is ∙ again in
      let first : seed ≡ other = cc in
      let second : events ≡ more = cc in
      let P : ℕ → Type 0 = λ s. Generated s events old new status in
      let Q : ℕ → Type 0 = λ e. Generated other e old new status in
      subst Q second (subst P first generated);
  usage = λ none. absurd (let P : Mode → Type 0 = λ m. IsNone m in subst P is none);
}

-- the call of words that mean a document
pub in_document : (mode : Mode) (old new : World) (status : Status) → mode ≡ modes.Toml → FromDocument old new status → PromisedIn mode old new status
in_document mode old new status is run = record {
  replay = λ replays. absurd cc;
  migrated = λ migrates. absurd cc;
  document = λ again. run;
  generated = λ seed events generates. absurd cc;
  usage = λ none. absurd (let P : Mode → Type 0 = λ m. IsNone m in subst P is none);
}

-- memory ran out before the words were read
pub in_memory : (mode : Mode) (old : World) → Promised old old endings.Memory → FromToml old old (Ok endings.Memory)
    → PromisedIn mode old old statuses.Memory
in_memory mode old promised unread = record {
  replay = λ replays. record { ending = endings.Memory; told = refl; run = promised };
  migrated = λ migrates. migrated_none old;
  document = λ documents. record { ended = Ok endings.Memory; told = refl; run = unread };
  generated = λ seed events generates. generated_none seed events old;
  usage = λ none. (inr refl, refl);
}

-- the status of a document tells that it couldn't be read
pub unread_in_toml : (ended : TomlEnding) → status_in_toml ended ≡ statuses.ReadFault → ended ≡ Ok endings.ReadFault
unread_in_toml (Ok endings.Done) is = absurd cc
unread_in_toml (Ok (endings.Refused line reason)) is = absurd cc
unread_in_toml (Ok endings.ReadFault) is = refl
unread_in_toml (Ok endings.WriteFault) is = absurd cc
unread_in_toml (Ok endings.OutletFault) is = absurd cc
unread_in_toml (Ok endings.Memory) is = absurd cc
unread_in_toml (Err cause) is = absurd cc
