-- What the run of a document read, wrote and handed to the boxes, by how it ended. `starts` and `ends` are the accounts of the
-- boxes before and after it, `left` and `left'` what the source had left, `kept` and `kept'` what the sink had taken. The form of
-- documents is this project's own.
use Rattle.std.specs.Prelude.{ℕ, ◌≡◌, ◌⊎◌, List, [], ◌∷◌, ◌++◌, reverse, Option, Result}
use Rattle.std.specs.Io.KnownBytes.{Appends, Keeps}
use Rattle.bcast_io.specs.TextLines.{TextLine}
use Rattle.bcast_io.specs.Writing.{AppendsPrefix, AppendsShort}
use Rattle.bcast_io.specs.Documents.{ReadWhole, ReadPast, ReadPrefix}
use Rattle.scenario_history.specs.Runs.{End, Accepted}
use Rattle.replay_lines.specs.Replayed.{BoxesCut, LineFails}
use Rattle.scenario_history.specs.Boxes.{Took}
use Rattle.scenario_history.specs.Lines.{rules_of}
use Rattle.source_machine.specs.Airs.{Airs}
use Rattle.scenario_history.specs.Transcript.{out_of, units_of}
use Rattle.transcript_text.specs.declared.refusal.Refusal.{Refusal}
use Rattle.unit_outlets.specs.Account.{Account}
use Rattle.replay_lines.specs.declared.cause.Cause.{Cause}
use Rattle.replay_lines.specs.declared.cause.Cause.TheVariants.{TooLong}
use Rattle.replay_lines.specs.Standing.{Standing, refused_for, standing_of, lines_over, transcript_over, end_over, units_over}

pub record WholeIs (left left' : Option (List ℕ)) (standing : Standing) : Type 0 where
  pub document : List ℕ
  pub read : ReadWhole left left' document
  pub means : standing_of document ≡ standing

-- The document stands for this. Of one that is too long, one octet more was read than a document may have, and none behind it.
abbrev pub DocumentIs : Option (List ℕ) → Option (List ℕ) → Standing → Type 0
DocumentIs left left' (refused_for TooLong) = ReadPast left left'
DocumentIs left left' standing = WholeIs left left' standing

pub record TomlWritten (airs : Airs) (starts ends : List Account) (left left' kept kept' : Option (List ℕ))
    (end : Result (End Refusal) Cause) : Type 0 where
  pub standing : Standing
  pub document : DocumentIs left left' standing
  pub ends_so : end_over airs starts standing ≡ end
  pub written : Appends kept kept' (transcript_over airs starts standing)
  pub boxes : Took starts ends (units_over airs starts standing)

-- `FaultCut` of these lines
pub record FaultCutIn (airs : Airs) (starts ends : List Account) (kept kept' : Option (List ℕ)) (lines : List TextLine) : Type 0 where
  pub earlier : List TextLine
  pub line : TextLine
  pub later : List TextLine
  pub comes : lines ≡ reverse earlier ++ line ∷ later
  pub accepted : Accepted (rules_of airs starts) (line ∷ earlier)
  pub accounts : List Account
  pub before : Took starts accounts (units_of airs starts (reverse earlier))
  pub told : List ℕ
  pub fails : LineFails airs starts earlier line [] told accounts ends
  pub between : Option (List ℕ)
  pub written : Appends kept between (out_of airs starts (reverse earlier))
  pub cut : AppendsShort between kept' told

pub record TomlFaultCut (airs : Airs) (starts ends : List Account) (left left' kept kept' : Option (List ℕ)) : Type 0 where
  pub standing : Standing
  pub document : DocumentIs left left' standing
  pub cut : FaultCutIn airs starts ends kept kept' (lines_over standing)

-- `Broken` of the lines that the document stands for
pub record TomlCut (airs : Airs) (starts ends : List Account) (left left' kept kept' : Option (List ℕ)) : Type 0 where
  pub standing : Standing
  pub document : DocumentIs left left' standing
  pub written : AppendsPrefix kept kept' (transcript_over airs starts standing)
  pub boxes : BoxesCut airs starts ends (lines_over standing) ⊎ FaultCutIn airs starts ends kept kept' (lines_over standing)

-- ReadFault, and Memory before a line was run: at most so many octets were read, nothing was written, and no box was called
pub record TomlUnread (most : ℕ) (starts ends : List Account) (left left' kept kept' : Option (List ℕ)) : Type 0 where
  pub read : ReadPrefix most left left'
  pub written : Keeps kept kept'
  pub boxes : ends ≡ starts

-- `OutletFaulted` of the lines that the document stands for, which was read whole
pub record TomlOutlet (airs : Airs) (starts ends : List Account) (left left' kept kept' : Option (List ℕ)) : Type 0 where
  pub standing : Standing
  pub document : DocumentIs left left' standing
  pub earlier : List TextLine
  pub line : TextLine
  pub later : List TextLine
  pub comes : lines_over standing ≡ reverse earlier ++ line ∷ later
  pub accepted : Accepted (rules_of airs starts) (line ∷ earlier)
  pub accounts : List Account
  pub before : Took starts accounts (units_of airs starts (reverse earlier))
  pub told : List ℕ
  pub fails : LineFails airs starts earlier line (out_of airs starts (reverse earlier)) told accounts ends
  pub written : Appends kept kept' told
