-- A reader of lines between two calls, and what a call did to it.
use Rattle.std.specs.Prelude.{ℕ, ◌≡◌, ◌≢◌, ◌<◌, ◌≤◌, ◌+◌, ◌-◌, if◌then◌else◌, Bool, true, false, List, [], ◌++◌, length, Option, None, Some}
use Rattle.std.specs.Io.KnownBytes.{Consumes}
use Rattle.bcast_io.specs.TextLines.{TextLine, lines_from, text_limit}
use Rattle.bcast_io.specs.declared.line_reader.Place.{Place}
use Rattle.bcast_io.specs.declared.line_reader.Place.TheVariants.{Nowhere, Ahead, Apart}

-- the octets that were read ahead, and the last line that was passed over whole
pub record Window : Type 0 where
  pub octets : List ℕ
  pub line : List ℕ

pub record Reading : Type 0 where
  -- the octets that were read ahead
  pub ahead : List ℕ
  -- the octets of the line so far, or its first 9,001 where it has more
  pub part : List ℕ
  -- how many octets of the text stand before those ahead
  pub taken : ℕ
  -- the input is over
  pub over : Bool
  -- the last line, where the last answer was Line
  pub line : Option (List ℕ)

-- the octets of the last line, by where it stands: in the buffer of those read ahead, or apart
abbrev pub held : Place → List ℕ → List ℕ → Option (List ℕ)
held Nowhere passed apart = None
held Ahead passed apart = Some passed
held Apart passed apart = Some apart

-- the lines of these octets, which follow those that were taken
abbrev pub lines_after : Bool → Reading → List ℕ → List TextLine
lines_after at_end r octets = lines_from at_end r.taken r.part octets

-- what may follow: where the input is over, its end alone
abbrev pub MayFollow : Bool → Bool → List ℕ → Type 0
MayFollow over at_end more = over ≡ true → (at_end ≡ true) × (more ≡ [])

-- Of the octets ahead and a further piece `octets` were taken, and the rest is ahead now. Whatever follows them, these
-- lines come first, and then those that the new state gives.
pub record Reads (old new : Reading) (piece : List ℕ) (lines : List TextLine) : Type 0 where
  pub octets : List ℕ
  pub count : new.taken ≡ old.taken + length octets
  pub split : old.ahead ++ piece ≡ octets ++ new.ahead
  pub first : (at_end : Bool) (more : List ℕ) → MayFollow new.over at_end more
      → lines_after at_end old (octets ++ more) ≡ lines ++ lines_after at_end new more

-- the same with the piece that was taken from a source
pub record Took (old new : Reading) (left left' : Option (List ℕ)) (lines : List TextLine) : Type 0 where
  pub piece : List ℕ
  pub consumed : Consumes left left' piece
  pub reads : Reads old new piece lines

-- the octet past the limit of the text is ahead, and the line so far holds it
pub record IsPast (r : Reading) : Type 0 where
  pub taken : r.taken ≡ text_limit
  pub some : 0 < length r.ahead

-- the most octets that are read ahead
abbrev pub ahead_limit : ℕ
ahead_limit = 65536

-- what each reader keeps: it holds no more than its space and takes no octet past the limit of the text, and where the
-- input is over nothing of it is left
pub record IsSound (r : Reading) : Type 0 where
  pub least : length r.ahead ≤ ahead_limit
  pub fits : r.taken ≤ text_limit
  pub ended : r.over ≡ true → (r.ahead ≡ []) × (r.part ≡ [])

-- an answer is due with no further read: a whole line is ahead, or the octet past the limit of the text
abbrev pub IsReady : Reading → Type 0
IsReady r = lines_after false r r.ahead ≢ []

-- the most lines that may still come
abbrev pub lines_left : Reading → ℕ
lines_left r = (text_limit - r.taken) + (if r.over then 0 else 1)

-- no octet is left
pub record IsDone (old new : Reading) : Type 0 where
  pub part : old.part ≡ []
  pub ahead : old.ahead ≡ []
  pub over : new.over ≡ true
  pub line : new.line ≡ None

-- a read failed before the line was whole
pub record BreaksOff (old new : Reading) (left left' : Option (List ℕ)) : Type 0 where
  pub took : Took old new left left' []
  pub ahead : new.ahead ≡ []
  pub going : new.over ≡ false
  pub line : new.line ≡ None
