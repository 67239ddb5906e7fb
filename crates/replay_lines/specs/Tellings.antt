-- What a listener is told of a line. Listeners are this project's own.
use Rattle.std.specs.Prelude.{ℕ, ◌≡◌, ◌+◌, List, [], ◌∷◌, ◌++◌, length, Option, None, Some}
use Rattle.bcast_io.specs.TextLines.{TextLine, plain, too_long, past}
use Rattle.unit_outlets.specs.Account.{Account}
use Rattle.replay_steps.specs.LineMeets.{LinesStand}
use Rattle.replay_steps.specs.declared.machine.Machine.{Machine}

-- The line of this number, from 1, is to be run; a line was run, and what it brings was written.
pub data Telling : Type 0 where
  begun : ℕ → List ℕ → Telling
  was_run : List ℕ → Telling

-- What is told of these lines, each of which was run, the newest first, lines and tellings alike. Lines that are too long are told to
-- nobody.
abbrev pub tellings : List TextLine → List Telling
tellings [] = []
tellings (plain line ∷ earlier) = was_run line ∷ begun (length earlier + 1) line ∷ tellings earlier
tellings (too_long ∷ earlier) = tellings earlier
tellings (past ∷ earlier) = tellings earlier

-- a listener that counts what it is told was told this more, the newest first
abbrev pub Tells : Option (List Telling) → Option (List Telling) → List Telling → Type 0
Tells None None more = Unit {0}
Tells (Some told) (Some told') more = told' ≡ more ++ told
Tells _ _ more = ⊥

-- the rows of the lines that began among these tellings, the oldest first: `row` is that of a line with its number
abbrev pub rows_of : (ℕ → List ℕ → List ℕ) → List Telling → List ℕ
rows_of row [] = []
rows_of row (begun number line ∷ earlier) = rows_of row earlier ++ row number line
rows_of row (was_run line ∷ earlier) = rows_of row earlier

-- What a listener counts of what it was told, the newest first, and the rows of lines that its sink has beside the transcript, each
-- where it is told.
pub record Listened : Type 0 where
  pub told : Option (List Telling)
  pub rows : Option (List ℕ)

-- a listener and its sink, by what they tell
abbrev pub listened : {L K : Type 0} → (L → Option (List Telling)) → (K → Option (List ℕ)) → L → K → Listened
listened told rows listener sink = record { told = told listener; rows = rows sink }

-- The machine stands for the lines before the one of this number, from 1, so that this line wasn't run: `starts` and `accounts` are the
-- accounts of the boxes before those lines and behind them.
pub record StandsBefore (number : ℕ) (machine : Machine) : Type 0 where
  pub starts : List Account
  pub accounts : List Account
  pub lines : List TextLine
  pub is_next : number ≡ length lines + 1
  pub stands : LinesStand starts lines machine accounts
