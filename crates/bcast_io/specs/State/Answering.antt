-- What each answer of a reader of lines says.
use Rattle.std.specs.Prelude.{ℕ, ◌≡◌, ◌<◌, List, [], ◌∷◌, Option, None, Some}
use Rattle.std.specs.Io.KnownBytes.{Consumes}
use Rattle.bcast_io.specs.declared.line_reader.LineRead.{LineRead}
use Rattle.bcast_io.specs.declared.line_reader.LineRead.TheVariants.{Line, LineTooLong, TextTooLong, End}
use Rattle.bcast_io.specs.TextLines.{TextLine, plain, too_long}
use Rattle.bcast_io.specs.State.Reading.{Reading, Reads, Took, IsPast, IsDone, lines_left}

-- the answer names this line, of which the reader holds the octets
abbrev pub Names : LineRead → Option (List ℕ) → TextLine → Type 0
Names Line held line = (octets : List ℕ) × (held ≡ Some octets) × (line ≡ plain octets)
Names LineTooLong held line = (held ≡ None) × (line ≡ too_long)
Names TextTooLong held line = ⊥
Names End held line = ⊥

-- what was answered of the octets ahead alone
abbrev pub Finds : LineRead → Reading → Reading → Type 0
Finds Line old new = (octets : List ℕ) × (new.line ≡ Some octets) × Reads old new [] (plain octets ∷ [])
Finds LineTooLong old new = (new.line ≡ None) × Reads old new [] (too_long ∷ [])
Finds TextTooLong old new = (new.line ≡ None) × IsPast new × Reads old new [] []
Finds End old new = ⊥

-- what is answered at the end of the input, where nothing is ahead
abbrev pub Ends : LineRead → Reading → Reading → Type 0
Ends Line old new = (octets : List ℕ) × (new.line ≡ Some octets) × Reads old new [] (plain octets ∷ [])
Ends LineTooLong old new = (new.line ≡ None) × Reads old new [] (too_long ∷ [])
Ends TextTooLong old new = ⊥
Ends End old new = IsDone old new

-- an answer that is a line brings the last line nearer
abbrev pub GoesOn : LineRead → Reading → Reading → Type 0
GoesOn Line old new = lines_left new < lines_left old
GoesOn LineTooLong old new = lines_left new < lines_left old
GoesOn TextTooLong old new = Unit {0}
GoesOn End old new = Unit {0}

-- an answer that is a line begins the next one anew
abbrev pub Anew : LineRead → Reading → Type 0
Anew Line new = new.part ≡ []
Anew LineTooLong new = new.part ≡ []
Anew TextTooLong new = Unit {0}
Anew End new = Unit {0}

-- what was answered of the octets ahead and those that a call took from its source
abbrev pub Answers : LineRead → Reading → Reading → Option (List ℕ) → Option (List ℕ) → Type 0
Answers Line old new left left' = (octets : List ℕ) × (new.line ≡ Some octets) × Took old new left left' (plain octets ∷ [])
Answers LineTooLong old new left left' = (new.line ≡ None) × Took old new left left' (too_long ∷ [])
Answers TextTooLong old new left left' = (new.line ≡ None) × IsPast new × Took old new left left' []
Answers End old new left left' = IsDone old new × Consumes left left' []
