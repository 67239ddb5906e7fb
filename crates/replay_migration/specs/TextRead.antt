-- What a migration read of the text of its source: `left` and `left'` are what the source had left before and after it. The
-- text and its limit are this project's own.
use Rattle.std.specs.Prelude.{ℕ, ◌≡◌, ◌<◌, ◌≤◌, ◌+◌, Bool, List, [], ◌∷◌, ◌++◌, length, Option}
use Rattle.std.specs.Io.KnownBytes.{Consumes, IsAtEnd}
use Rattle.bcast_io.specs.TextLines.{TextLine, past, lines_of, text_limit}

-- the most octets that one read gives
abbrev pub piece_limit : ℕ
piece_limit = 65536

pub record ReadWhole (left left' : Option (List ℕ)) (text : List ℕ) : Type 0 where
  pub consumed : Consumes left left' text
  pub at_end : IsAtEnd left'
  pub within : length text ≤ text_limit

-- the last of these lines, of this number from 1, holds the octet past the limit of a text
pub record LastIsPast (lines : List TextLine) (number : ℕ) : Type 0 where
  pub earlier : List TextLine
  pub are : lines ≡ earlier ++ past ∷ []
  pub is_next : number ≡ length earlier + 1

-- A text has the octet past the limit of a text, in the line of this number, whatever follows.
pub record IsTooLong (text : List ℕ) (line : ℕ) : Type 0 where
  pub long : text_limit < length text
  pub lines : (at_end : Bool) (more : List ℕ) → LastIsPast (lines_of at_end (text ++ more)) line

-- so much of a text was read that it is too long, in the line of this number, and nothing after the read that showed it
pub record ReadPast (left left' : Option (List ℕ)) (line : ℕ) : Type 0 where
  pub text : List ℕ
  pub consumed : Consumes left left' text
  pub too_long : IsTooLong text line
  pub least : length text ≤ text_limit + piece_limit

pub record ReadPart (left left' : Option (List ℕ)) (most : ℕ) : Type 0 where
  pub text : List ℕ
  pub consumed : Consumes left left' text
  pub least : length text ≤ most
