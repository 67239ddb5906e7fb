-- What was read of a document: `left` and `left'` are what the source had left before and after it. The limit of a document
-- is this project's own.
use Rattle.std.specs.Prelude.{ℕ, ◌≡◌, ◌≤◌, ◌+◌, List, length, Option, Result, Ok, Err}
use Rattle.std.specs.Io.KnownBytes.{Consumes, IsAtEnd}
use Rattle.bcast_io.specs.declared.document.Document.{Document}
use Rattle.bcast_io.specs.declared.document.Document.TheVariants.{Whole, TooLong}
use Rattle.bcast_io.specs.declared.piece.Unread.{Unread}
use Rattle.bcast_io.specs.declared.piece.Unread.TheVariants.{Failed, Memory}

-- the most octets of a document
abbrev pub document_limit : ℕ
document_limit = 1048576

pub record ReadWhole (left left' : Option (List ℕ)) (document : List ℕ) : Type 0 where
  pub consumed : Consumes left left' document
  pub at_end : IsAtEnd left'
  pub within : length document ≤ document_limit

-- one octet more was read than a document may have, and none behind it
pub record ReadPast (left left' : Option (List ℕ)) : Type 0 where
  pub octets : List ℕ
  pub consumed : Consumes left left' octets
  pub long : length octets ≡ document_limit + 1

pub record ReadPrefix (most : ℕ) (left left' : Option (List ℕ)) : Type 0 where
  pub octets : List ℕ
  pub consumed : Consumes left left' octets
  pub least : length octets ≤ most

-- what was read, by the answer
abbrev pub ReadsDocument : Option (List ℕ) → Option (List ℕ) → Result Document Unread → Type 0
ReadsDocument left left' (Ok (Whole document)) = ReadWhole left left' document
ReadsDocument left left' (Ok TooLong) = ReadPast left left'
ReadsDocument left left' (Err Failed) = ReadPrefix document_limit left left'
ReadsDocument left left' (Err Memory) = ReadPrefix (document_limit + 1) left left'
