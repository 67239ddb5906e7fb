-- What a listener is told of a run, and what it puts beside the transcript for that. Listeners are this project's own.
use Rattle.std.specs.Prelude.{ℕ, ◌≡◌, ◌⊎◌, ◌+◌, Bool, true, false, List, [], ◌∷◌, length, Option, None, Some}
use Rattle.std.specs.Io.KnownBytes.{Appends}
use Rattle.bcast_io.specs.TextLines.{TextLine, plain}
use Rattle.bcast_io.specs.Writing.{AppendsPrefix}
use Rattle.transcript_text.specs.declared.refusal.Refusal.TheVariants.{NoEnd}
use Rattle.replay_lines.specs.Replayed.{Comes}
use Rattle.bcast_io.specs.State.Reading.{Reading}
use Rattle.replay_lines.specs.State.Between.{ReadTo, TextIs}
use Rattle.replay_lines.specs.Tellings.{Listened, Telling, Tells, begun, rows_of, tellings}
use Rattle.replay_lines.specs.declared.ending.Ending.{Ending}
use Rattle.replay_lines.specs.declared.ending.Ending.TheVariants as endings

-- The listener was told this more, the newest first, and for each line that began its row was put.
pub record HasTold (row : ℕ → List ℕ → List ℕ) (old new : Listened) (more : List Telling) : Type 0 where
  pub counted : Tells old.told new.told more
  pub shown : Appends old.rows new.rows (rows_of row more)

-- each line of the text was told, to its end or to a fault of the source
pub record ToldAll (row : ℕ → List ℕ → List ℕ) (left left' : Option (List ℕ)) (old new : Listened) (over : Bool) : Type 0 where
  pub lines : List TextLine
  pub text : TextIs left left' lines over
  pub has : HasTold row old new (tellings lines)

-- each line of the text up to the one of this number was told, and none behind it
pub record ToldUpTo (row : ℕ → List ℕ → List ℕ) (left left' : Option (List ℕ)) (old new : Listened) (number : ℕ) : Type 0 where
  pub earlier : List TextLine
  pub line : TextLine
  pub comes : Comes left left' earlier line
  pub is_next : number ≡ length earlier + 1
  pub has : HasTold row old new (tellings (line ∷ earlier))

-- Each line of the text before one was told, and that this one is to be run, of which a prefix of its row was put: there the listener
-- failed, and the line wasn't run.
pub record ToldBefore (row : ℕ → List ℕ → List ℕ) (left left' : Option (List ℕ)) (old new : Listened) : Type 0 where
  pub earlier : List TextLine
  pub line : List ℕ
  pub comes : Comes left left' earlier (plain line)
  pub counted : Tells old.told new.told (begun (length earlier + 1) line ∷ tellings earlier)
  pub shown : AppendsPrefix old.rows new.rows (rows_of row (begun (length earlier + 1) line ∷ tellings earlier))

-- What the listener of a run was told that ended so: each line with its number from 1 before it is run, and each that was run that it
-- was, in the order of the text.
abbrev pub Told : (ℕ → List ℕ → List ℕ) → Option (List ℕ) → Option (List ℕ) → Listened → Listened → Ending → Type 0
Told row left left' old new endings.Done = ToldAll row left left' old new true
Told row left left' old new (endings.Refused line reason) = ToldUpTo row left left' old new line ⊎ ((reason ≡ NoEnd) × ToldAll row left left' old new true)
Told row left left' old new endings.ReadFault = ToldAll row left left' old new false
Told row left left' old new endings.WriteFault =
    ((number : ℕ) × ToldUpTo row left left' old new number) ⊎ ToldAll row left left' old new true ⊎ ToldBefore row left left' old new
Told row left left' old new endings.OutletFault = (number : ℕ) × ToldUpTo row left left' old new number
Told row left left' old new endings.Memory =
    ((number : ℕ) × ToldUpTo row left left' old new number) ⊎ ToldAll row left left' old new true ⊎ ToldBefore row left left' old new
    ⊎ HasTold row old new []

-- what it was told once the last of these lines was run, or when the run ended at it
abbrev pub StepTold : (ℕ → List ℕ → List ℕ) → Option (List ℕ) → Option (List ℕ) → Listened → Listened → List TextLine → Option Ending → Type 0
StepTold row left left' old new lines None = HasTold row old new (tellings lines)
StepTold row left left' old new lines (Some ending) = Told row left left' old new ending

-- the next line was read and told, or the run ended
abbrev pub LineTold : (ℕ → List ℕ → List ℕ) → Option (List ℕ) → Option (List ℕ) → Listened → Listened → List TextLine → Reading → Option Ending → Type 0
LineTold row left left' old new lines reader None =
    (line : TextLine) × ReadTo left left' (line ∷ lines) reader × HasTold row old new (tellings (line ∷ lines))
LineTold row left left' old new lines reader (Some ending) = Told row left left' old new ending

-- how a run may end at the line of this number
abbrev pub EndsAt : ℕ → Option Ending → Type 0
EndsAt number None = Unit {0}
EndsAt number (Some endings.Done) = ⊥
EndsAt number (Some (endings.Refused line reason)) = line ≡ number
EndsAt number (Some endings.ReadFault) = ⊥
EndsAt number (Some _) = Unit {0}

-- how a run may end behind the last line
abbrev pub EndsText : Ending → Type 0
EndsText endings.Done = Unit {0}
EndsText (endings.Refused line reason) = reason ≡ NoEnd
EndsText endings.WriteFault = Unit {0}
EndsText endings.Memory = Unit {0}
EndsText _ = ⊥
