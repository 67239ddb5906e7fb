-- How a text grows by what is read of it.
use Rattle.std.specs.Prelude.{ℕ, ◌≡◌, ◌<◌, ◌≤◌, ◌+◌, List, ◌++◌, length, Option, Result, Ok, Err}
use Rattle.std.specs.Io.KnownBytes.{Consumes, IsAtEnd, Keeps}
use Rattle.bcast_base.specs.declared.memory.Memory.{Memory}
use Rattle.bcast_io.specs.TextLines.{text_limit}
use Rattle.replay_migration.specs.TextRead.{IsTooLong, ReadWhole, ReadPast, ReadPart, piece_limit}
use Rattle.replay_migration.specs.declared.piece.Piece.{Piece}
use Rattle.replay_migration.specs.declared.piece.Piece.TheVariants.{Taken, End, PastLimit}
use Rattle.replay_migration.specs.declared.text.Text.{Text}
use Rattle.replay_migration.specs.declared.text.Text.TheVariants.{Whole, TooLong}
use Rattle.replay_migration.specs.declared.piece.Unread.{Unread}
use Rattle.replay_migration.specs.declared.piece.Unread.TheVariants as unreads

-- a piece was put behind the octets so far
abbrev pub Joins : List ℕ → List ℕ → List ℕ → Result Piece Memory → Type 0
Joins old octets new (Ok Taken) = (new ≡ old ++ octets) × (length old < length new) × (length new ≤ text_limit)
Joins old octets new (Ok End) = ⊥
Joins old octets new (Ok (PastLimit line)) = IsTooLong (old ++ octets) line
Joins old octets new (Err memory) = new ≡ old

-- octets that a source gave were put behind those so far
pub record Took (left left' : Option (List ℕ)) (old new : List ℕ) : Type 0 where
  pub octets : List ℕ
  pub consumed : Consumes left left' octets
  pub joined : new ≡ old ++ octets
  pub longer : length old < length new
  pub within : length new ≤ text_limit

-- octets that a source gave make those so far a text that is too long
pub record TookPast (left left' : Option (List ℕ)) (old : List ℕ) (line : ℕ) : Type 0 where
  pub octets : List ℕ
  pub consumed : Consumes left left' octets
  pub too_long : IsTooLong (old ++ octets) line
  pub least : length octets ≤ piece_limit

-- octets that a source gave were let go
pub record LetGo (left left' : Option (List ℕ)) : Type 0 where
  pub octets : List ℕ
  pub consumed : Consumes left left' octets
  pub least : length octets ≤ piece_limit

-- what one read of a source did
abbrev pub ReadsOn : Option (List ℕ) → Option (List ℕ) → List ℕ → List ℕ → Result Piece Unread → Type 0
ReadsOn left left' old new (Ok Taken) = Took left left' old new
ReadsOn left left' old new (Ok End) = (new ≡ old) × Keeps left left' × IsAtEnd left'
ReadsOn left left' old new (Ok (PastLimit line)) = TookPast left left' old line
ReadsOn left left' old new (Err unreads.Failed) = Keeps left left'
ReadsOn left left' old new (Err unreads.Memory) = LetGo left left'

-- what was read of a text
abbrev pub ReadsText : Option (List ℕ) → Option (List ℕ) → Result Text Unread → Type 0
ReadsText left left' (Ok (Whole text)) = ReadWhole left left' text
ReadsText left left' (Ok (TooLong line)) = ReadPast left left' line
ReadsText left left' (Err unreads.Failed) = ReadPart left left' text_limit
ReadsText left left' (Err unreads.Memory) = ReadPart left left' (text_limit + piece_limit)
