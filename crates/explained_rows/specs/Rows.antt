-- What an explanation tells of a transcript: its rows that begin with two blanks and no `#` behind them, without the blanks. A row
-- that begins with two blanks and `##` tells what stands behind the first `#`, so each row of a transcript may be told. A row that begins
-- with no blank tells a line of the scenario, with its number. The form of explanations is this project's own.
use Rattle.std.specs.Prelude.{ℕ, ◌==◌, ◌++◌, Bool, true, false, not, List, [], ◌∷◌, Option, None, Some, decimal, if◌then◌else◌}
use Rattle.explained_rows.specs.declared.place.Place.{Place}
use Rattle.explained_rows.specs.declared.place.Place.TheVariants.{Start, Blank, Blanks, Mark, Within, Beside, Line}

-- the octets 0x0A, of a blank and of `#`
abbrev pub newline : ℕ
newline = 10

abbrev pub blank : ℕ
blank = 32

abbrev pub mark : ℕ
mark = 35

-- where the octet behind one stands that ends no row
abbrev pub next_in_row : Place → ℕ → Place
next_in_row Start x = if x == blank then Blank else Line
next_in_row Blank x = if x == blank then Blanks else Beside
next_in_row Blanks x = if x == mark then Mark else Within
next_in_row Mark x = if x == mark then Within else Beside
next_in_row Within x = Within
next_in_row Beside x = Beside
next_in_row Line x = Line

abbrev pub next : Place → ℕ → Place
next place x = if x == newline then Start else next_in_row place x

-- where the octet behind these stands
abbrev pub place_after : Place → List ℕ → Place
place_after place [] = place
place_after place (x ∷ xs) = place_after (next place x) xs

-- an octet at this place is one of the transcript
abbrev pub takes : Place → ℕ → Bool
takes Start x = false
takes Blank x = false
takes Blanks x = not (x == mark)
takes Mark x = x == mark
takes Within x = true
takes Beside x = false
takes Line x = false

-- an octet at this place is one of a row that tells a line
abbrev pub tells_line : Place → ℕ → Bool
tells_line Start x = not (x == blank)
tells_line Blank x = false
tells_line Blanks x = false
tells_line Mark x = false
tells_line Within x = false
tells_line Beside x = false
tells_line Line x = true

-- the octets that are picked among these, from this place on
abbrev pub picked : (Place → ℕ → Bool) → Place → List ℕ → List ℕ
picked picks place [] = []
picked picks place (x ∷ xs) = if picks place x then x ∷ picked picks (next place x) xs else picked picks (next place x) xs

-- the octets of the transcript among these, and those of rows that tell lines
abbrev pub told : Place → List ℕ → List ℕ
told = picked takes

abbrev pub lines_told : Place → List ℕ → List ℕ
lines_told = picked tells_line

abbrev pub number_of : Place → ℕ
number_of Start = 0
number_of Blank = 1
number_of Blanks = 2
number_of Mark = 3
number_of Within = 4
number_of Beside = 5
number_of Line = 6

-- What is picked of the octets of an explanation where the next one stands at this place. Those of which that is not so were begun by
-- another hand, in the midst of a row, and nothing is known of them.
abbrev pub picked_at : (Place → ℕ → Bool) → Place → Option (List ℕ) → Option (List ℕ)
picked_at picks place None = None
picked_at picks place (Some octets) =
    if number_of (place_after Start octets) == number_of place then Some (picked picks Start octets) else None

-- what these octets tell of the transcript, and the rows among them that tell lines
abbrev pub told_at : Place → Option (List ℕ) → Option (List ℕ)
told_at = picked_at takes

abbrev pub lines_at : Place → Option (List ℕ) → Option (List ℕ)
lines_at = picked_at tells_line

-- the row that tells a line: its number and, behind a blank, its octets
abbrev pub line_row : ℕ → List ℕ → List ℕ
line_row number line = decimal number ++ blank ∷ (line ++ newline ∷ [])

-- a writer of an explanation: where its octets go, and the place of the next one
pub record Rows (W : Type 0) : Type 0 where
  pub inner : W
  pub place : Place
