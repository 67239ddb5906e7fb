-- What a run of a text read, wrote and handed to the boxes, by how it ended. `starts` and `ends` are the accounts of
-- the boxes before and after it, `left` and `left'` what the source had left, `kept` and `kept'` what the sink had taken.
-- The language and its endings are this project's own.
use Rattle.std.specs.Prelude.{ℕ, ◌≡◌, ◌≤◌, ◌<◌, ◌⊎◌, ◌+◌, Bool, true, false, List, [], ◌∷◌, ◌++◌, length, reverse, Option}
use Rattle.std.specs.Io.KnownBytes.{Appends, Consumes, IsAtEnd}
use Rattle.bcast_io.specs.TextLines.{TextLine, lines_of, text_limit}
use Rattle.bcast_io.specs.State.Reading.{MayFollow}
use Rattle.bcast_io.specs.Writing.{AppendsPrefix, AppendsShort}
use Rattle.unit_outlets.specs.Account.{Account}
use Rattle.transcript_text.specs.declared.refusal.Refusal.{Refusal}
use Rattle.transcript_text.specs.declared.refusal.Refusal.TheVariants.{NoEnd}
use Rattle.scenario_history.specs.Runs.{through, refused, Accepted}
use Rattle.source_machine.specs.Airs.{Airs}
use Rattle.scenario_history.specs.Boxes.{SinkUnit, Took}
use Rattle.scenario_history.specs.Lines.{rules_of, handed_on}
use Rattle.scenario_history.specs.Transcript.{out_of, end_after, transcript_of, transcript_end, units_of}
use Rattle.scenario_sinks.specs.Handing.{BoxFails, CutShort}
use Rattle.replay_steps.specs.Failing.{CloseFails}
use Rattle.replay_steps.specs.LineMeets.{answered_on}

-- the octets that a run took from its source; `over` says that it met the end of the input
pub record TextRead (left left' : Option (List ℕ)) (text : List ℕ) (over : Bool) : Type 0 where
  pub consumed : Consumes left left' text
  pub at_end : over ≡ true → IsAtEnd left'

-- This line comes after these in the text, whatever follows the octets that a run took from its source.
pub record Comes (left left' : Option (List ℕ)) (earlier : List TextLine) (line : TextLine) : Type 0 where
  pub text : List ℕ
  pub over : Bool
  pub read : TextRead left left' text over
  pub lines : (at_end : Bool) (more : List ℕ) → MayFollow over at_end more
      → (later : List TextLine) × (lines_of at_end (text ++ more) ≡ reverse earlier ++ line ∷ later)

pub record Done (airs : Airs) (starts ends : List Account) (left left' kept kept' : Option (List ℕ)) : Type 0 where
  pub text : List ℕ
  pub read : TextRead left left' text true
  pub through_all : transcript_end airs starts (lines_of true text) ≡ through
  pub written : Appends kept kept' (transcript_of airs starts (lines_of true text))
  pub boxes : Took starts ends (units_of airs starts (lines_of true text))

-- NoEnd comes only at the end of the input
pub record RefusedAt (airs : Airs) (starts ends : List Account) (left left' kept kept' : Option (List ℕ)) (line : ℕ) (reason : Refusal) : Type 0 where
  pub text : List ℕ
  pub over : Bool
  pub read : TextRead left left' text over
  pub no_end : reason ≡ NoEnd → over ≡ true
  pub ends_so : (at_end : Bool) (more : List ℕ) → MayFollow over at_end more → transcript_end airs starts (lines_of at_end (text ++ more)) ≡ refused line reason
  pub octets : List ℕ
  pub transcript : (at_end : Bool) (more : List ℕ) → MayFollow over at_end more → transcript_of airs starts (lines_of at_end (text ++ more)) ≡ octets
  pub written : Appends kept kept' octets
  pub units : List SinkUnit
  pub handed : (at_end : Bool) (more : List ℕ) → MayFollow over at_end more → units_of airs starts (lines_of at_end (text ++ more)) ≡ units
  pub boxes : Took starts ends units

pub record ReadFaulted (airs : Airs) (starts ends : List Account) (left left' kept kept' : Option (List ℕ)) : Type 0 where
  pub text : List ℕ
  pub read : TextRead left left' text false
  pub through_all : end_after airs starts (lines_of false text) ≡ through
  pub written : Appends kept kept' (out_of airs starts (lines_of false text))
  pub boxes : Took starts ends (units_of airs starts (lines_of false text))

-- what the lines of a text, or the whole lines of a prefix of it, bring
abbrev pub brought_by : Airs → Bool → List Account → List ℕ → List ℕ
brought_by airs true starts text = transcript_of airs starts (lines_of true text)
brought_by airs false starts text = out_of airs starts (lines_of false text)

pub record BoxesCut (airs : Airs) (starts ends : List Account) (lines : List TextLine) : Type 0 where
  pub done : List SinkUnit
  pub rest : List SinkUnit
  pub split : units_of airs starts lines ≡ done ++ rest
  pub boxes : Took starts ends done

-- The units that the line after these hands up went to their boxes up to one, and the box of that one failed and counted it. What the
-- line prints before the line of that unit, the `dropped` lines of relays of lower sinks among it, stands behind `text` in `told`.
abbrev pub LineFails : Airs → (starts : List Account) → (earlier : List TextLine) → TextLine → (text told : List ℕ) → (before after : List Account) → Type 0
LineFails airs starts earlier line text told before after =
    CloseFails (handed_on airs earlier line) (answered_on airs earlier line) ((rules_of airs starts).output earlier line) text told before after

-- The lines before one were run, and none is refused; the box of a unit that this line hands up failed and counted it. What
-- those lines bring was written, and then a prefix of what this one prints before the line of the unit, and not all of that.
pub record FaultCut (airs : Airs) (starts ends : List Account) (left left' kept kept' : Option (List ℕ)) : Type 0 where
  pub earlier : List TextLine
  pub line : TextLine
  pub comes : Comes left left' earlier line
  pub accepted : Accepted (rules_of airs starts) (line ∷ earlier)
  pub accounts : List Account
  pub before : Took starts accounts (units_of airs starts (reverse earlier))
  pub told : List ℕ
  pub fails : LineFails airs starts earlier line [] told accounts ends
  pub between : Option (List ℕ)
  pub written : Appends kept between (out_of airs starts (reverse earlier))
  pub cut : AppendsShort between kept' told

-- WriteFault and Memory: a prefix of what the lines read bring was written, and the boxes took a prefix of their units, or one failed
pub record Broken (airs : Airs) (starts ends : List Account) (left left' kept kept' : Option (List ℕ)) : Type 0 where
  pub text : List ℕ
  pub over : Bool
  pub read : TextRead left left' text over
  pub written : AppendsPrefix kept kept' (brought_by airs over starts text)
  pub boxes : BoxesCut airs starts ends (lines_of over text) ⊎ FaultCut airs starts ends left left' kept kept'

-- At most 65,536 octets were read past the end of this line, from 1: without them the octets that a run took hold no more lines.
pub record ReadsAhead (left left' : Option (List ℕ)) (line : ℕ) : Type 0 where
  pub upto : List ℕ
  pub ahead : List ℕ
  pub consumed : Consumes left left' (upto ++ ahead)
  pub least : length ahead ≤ 65536
  pub within : length (lines_of true upto) ≤ line

pub record ReadsAtMost (left left' : Option (List ℕ)) (most : ℕ) : Type 0 where
  pub octets : List ℕ
  pub consumed : Consumes left left' octets
  pub within : length octets ≤ most

-- the most octets that a run takes: a text, and one read behind it, in which is the octet that makes the text too long
abbrev pub read_limit : ℕ
read_limit = text_limit + 65536

-- OutletFault: the lines before one were run, and none is refused; the box of a unit that this line hands up failed. What comes before the
-- line of that unit was written. No octet was read but for those that follow the line in one read ahead.
pub record OutletFaulted (airs : Airs) (starts ends : List Account) (left left' kept kept' : Option (List ℕ)) : Type 0 where
  pub earlier : List TextLine
  pub line : TextLine
  pub comes : Comes left left' earlier line
  pub ahead : ReadsAhead left left' (length earlier + 1)
  pub accepted : Accepted (rules_of airs starts) (line ∷ earlier)
  pub accounts : List Account
  pub before : Took starts accounts (units_of airs starts (reverse earlier))
  pub told : List ℕ
  pub fails : LineFails airs starts earlier line (out_of airs starts (reverse earlier)) told accounts ends
  pub written : Appends kept kept' told

-- The boxes took a prefix of these units, and then one may have failed at the next one and counted it. What was printed isn't said.
abbrev pub TookPrefix : List SinkUnit → List Account → List Account → Type 0
TookPrefix units before after = CutShort units before after ⊎ ((told : List ℕ) × BoxFails units [] told before after)

-- The boxes took all units of the lines before one, then a prefix of those that this line adds, and none of a later one.
pub record BoxesAt (airs : Airs) (starts ends : List Account) (earlier : List TextLine) (line : TextLine) : Type 0 where
  pub accounts : List Account
  pub before : Took starts accounts (units_of airs starts (reverse earlier))
  pub units : List SinkUnit
  pub added : units_of airs starts (reverse (line ∷ earlier)) ≡ units_of airs starts (reverse earlier) ++ units
  pub prefix : TookPrefix units accounts ends

-- What was written ends within the octets that this line brings: it is the least line such that it and those before it
-- bring more than what was written. The boxes took no unit of a later line.
pub record CutAt (airs : Airs) (starts ends : List Account) (left left' kept kept' : Option (List ℕ)) (line : ℕ) : Type 0 where
  pub text : List ℕ
  pub over : Bool
  pub read : TextRead left left' text over
  pub earlier : List TextLine
  pub last : TextLine
  pub later : List TextLine
  pub lines : lines_of over text ≡ reverse earlier ++ last ∷ later
  pub number : line ≡ length earlier + 1
  pub accepted : Accepted (rules_of airs starts) earlier
  pub prefix : List ℕ
  pub written : Appends kept kept' prefix
  pub not_before : length (out_of airs starts (reverse earlier)) ≤ length prefix
  pub longer : length prefix < length (out_of airs starts (reverse (last ∷ earlier)))
  pub boxes : BoxesAt airs starts ends earlier last

-- the line of NoEnd wasn't written whole; the boxes took all units
pub record NoEndCut (airs : Airs) (starts ends : List Account) (left left' kept kept' : Option (List ℕ)) : Type 0 where
  pub text : List ℕ
  pub read : TextRead left left' text true
  pub ends_so : transcript_end airs starts (lines_of true text) ≡ refused (length (lines_of true text) + 1) NoEnd
  pub prefix : List ℕ
  pub written : Appends kept kept' prefix
  pub not_before : length (out_of airs starts (lines_of true text)) ≤ length prefix
  pub boxes : Took starts ends (units_of airs starts (lines_of true text))

-- WriteFault: what was written ends within what a line brings, past which no more is read than `ReadsAhead`, or within the line of NoEnd
abbrev pub WriteCut : Airs → List Account → List Account → Option (List ℕ) → Option (List ℕ) → Option (List ℕ) → Option (List ℕ) → Type 0
WriteCut airs starts ends left left' kept kept' =
    ((line : ℕ) × CutAt airs starts ends left left' kept kept' line × ReadsAhead left left' line) ⊎ NoEndCut airs starts ends left left' kept kept'
