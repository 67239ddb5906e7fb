-- What a migration read and wrote, by how it ended: `left` and `left'` are what the source had left before and after it,
-- and `kept` and `kept'` what the sink had taken. Migration is this project's own.
use Rattle.std.specs.Prelude.{ℕ, ◌≡◌, ◌⊎◌, ◌+◌, List, Option}
use Rattle.std.specs.Io.KnownBytes.{Appends, Keeps}
use Rattle.bcast_io.specs.TextLines.{text_limit}
use Rattle.bcast_io.specs.Writing.{AppendsPrefix, AppendsShort}
use Rattle.scenario_text.specs.Migrated.{migrated}
use Rattle.transcript_text.specs.Lines.{refusal_line}
use Rattle.transcript_text.specs.declared.refusal.Refusal.TheVariants.{TextTooLong}
use Rattle.replay_migration.specs.TextRead.{ReadWhole, ReadPast, ReadPart, piece_limit}
use Rattle.replay_migration.specs.declared.migration.Migration.{Migration}
use Rattle.replay_migration.specs.declared.migration.Migration.TheVariants as ends

abbrev pub too_long_line : ℕ → List ℕ
too_long_line line = refusal_line line TextTooLong

pub record WroteText (left left' kept kept' : Option (List ℕ)) : Type 0 where
  pub text : List ℕ
  pub read : ReadWhole left left' text
  pub written : Appends kept kept' (migrated text)

pub record WroteRefusal (left left' kept kept' : Option (List ℕ)) (line : ℕ) : Type 0 where
  pub read : ReadPast left left' line
  pub written : Appends kept kept' (too_long_line line)

pub record WroteNothing (left left' kept kept' : Option (List ℕ)) : Type 0 where
  pub read : ReadPart left left' text_limit
  pub written : Keeps kept kept'

pub record IsText (left left' : Option (List ℕ)) (octets : List ℕ) : Type 0 where
  pub text : List ℕ
  pub read : ReadWhole left left' text
  pub are : octets ≡ migrated text

pub record IsRefusal (left left' : Option (List ℕ)) (octets : List ℕ) : Type 0 where
  pub line : ℕ
  pub read : ReadPast left left' line
  pub are : octets ≡ too_long_line line

abbrev pub IsDue : Option (List ℕ) → Option (List ℕ) → List ℕ → Type 0
IsDue left left' octets = IsText left left' octets ⊎ IsRefusal left left' octets

-- a prefix of what is due was written, and not all of it
pub record WroteShort (left left' kept kept' : Option (List ℕ)) : Type 0 where
  pub octets : List ℕ
  pub due : IsDue left left' octets
  pub written : AppendsShort kept kept' octets

pub record WrotePrefix (left left' kept kept' : Option (List ℕ)) : Type 0 where
  pub octets : List ℕ
  pub due : IsDue left left' octets
  pub written : AppendsPrefix kept kept' octets

-- nothing was written, before all was read
pub record RanOut (left left' kept kept' : Option (List ℕ)) : Type 0 where
  pub read : ReadPart left left' (text_limit + piece_limit)
  pub written : Keeps kept kept'

-- what a migration did that ended so
abbrev pub Ended : Migration → Option (List ℕ) → Option (List ℕ) → Option (List ℕ) → Option (List ℕ) → Type 0
Ended ends.Done left left' kept kept' = WroteText left left' kept kept'
Ended (ends.TooLong line) left left' kept kept' = WroteRefusal left left' kept kept' line
Ended ends.ReadFault left left' kept kept' = WroteNothing left left' kept kept'
Ended ends.WriteFault left left' kept kept' = WroteShort left left' kept kept'
Ended ends.Memory left left' kept kept' = RanOut left left' kept kept' ⊎ WrotePrefix left left' kept kept'
