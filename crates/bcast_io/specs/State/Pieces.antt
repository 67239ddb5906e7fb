-- How a document grows by what is read of it.
use Rattle.std.specs.Prelude.{ℕ, ◌≡◌, ◌<◌, ◌≤◌, ◌+◌, List, ◌++◌, length, Option, Result, Ok, Err}
use Rattle.std.specs.Io.KnownBytes.{Consumes, IsAtEnd, Keeps}
use Rattle.bcast_io.specs.Documents.{document_limit}
use Rattle.bcast_io.specs.declared.piece.Piece.{Piece}
use Rattle.bcast_io.specs.declared.piece.Piece.TheVariants.{Taken, End}
use Rattle.bcast_io.specs.declared.piece.Unread.{Unread}
use Rattle.bcast_io.specs.declared.piece.Unread.TheVariants.{Failed, Memory}

-- octets that a source gave were put behind those so far
pub record Took (left left' : Option (List ℕ)) (old new : List ℕ) : Type 0 where
  pub octets : List ℕ
  pub consumed : Consumes left left' octets
  pub joined : new ≡ old ++ octets
  pub longer : length old < length new
  pub within : length new ≤ document_limit + 1

-- octets that a source gave were let go
pub record LetGo (left left' : Option (List ℕ)) (old : List ℕ) : Type 0 where
  pub octets : List ℕ
  pub consumed : Consumes left left' octets
  pub within : length old + length octets ≤ document_limit + 1

-- what one read of a source did
abbrev pub ReadsOn : Option (List ℕ) → Option (List ℕ) → List ℕ → List ℕ → Result Piece Unread → Type 0
ReadsOn left left' old new (Ok Taken) = Took left left' old new
ReadsOn left left' old new (Ok End) = (new ≡ old) × Keeps left left' × IsAtEnd left'
ReadsOn left left' old new (Err Failed) = Keeps left left'
ReadsOn left left' old new (Err Memory) = LetGo left left' old
