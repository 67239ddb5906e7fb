-- Generated: the scenario of a seed and a number of events. It is this project's own: one source sends two streams, and two
-- sinks take one of them each and lose some of the PDUs of each event.
use Rattle.std.specs.Prelude.{ℕ, zero, suc, ◌+◌, ◌%◌, List, [], ◌∷◌, ◌++◌, replicate, codes, decimal}
use Rattle.scenario_words.specs.Digits.{digits}
use Rattle.scenario_words.specs.Joined.{joined}
use Rattle.scenario_lines.specs.Draws.{next_state, drawn}

abbrev pub unit_of : ℕ → List ℕ
unit_of x = replicate 100 (x % 256)

unfoldable pub unit_line : ℕ → ℕ → List ℕ
unit_line bis x = joined (codes "unit") (decimal bis ∷ codes "-" ∷ digits (unit_of x) ∷ [])

unfoldable pub air_line : ℕ → ℕ → List ℕ
air_line sink lose = joined (codes "air") (decimal sink ∷ decimal lose ∷ [])

abbrev pub head_lines : List (List ℕ)
head_lines =
    codes "scenario 1" ∷ codes "group unframed 20000 40000 8 10000 100 100 2 1 3 2 1 600 1800 1" ∷ codes "sink 0 1 1" ∷ codes "sink 1 1 1"
    ∷ codes "start 0" ∷ codes "tuned 0 1" ∷ codes "tuned 1 2" ∷ []

-- the lines of event x and of those behind it, so many in all, and `end`; the first draw of event x is made from this state
unfoldable pub lines_from : ℕ → ℕ → ℕ → List (List ℕ)
lines_from state x zero = codes "end" ∷ []
lines_from state x (suc count) =
    let first = next_state state in
    let second = next_state first in
    unit_line 1 (x + 1) ∷ unit_line 2 (x + 1) ∷ codes "event" ∷ air_line 0 (drawn first) ∷ air_line 1 (drawn second) ∷ lines_from second (x + 1) count

abbrev pub generated_lines : ℕ → ℕ → List (List ℕ)
generated_lines seed events = head_lines ++ (unit_line 1 0 ∷ unit_line 2 0 ∷ lines_from seed 0 events)

abbrev pub text_of : List (List ℕ) → List ℕ
text_of [] = []
text_of (line ∷ lines) = line ++ 10 ∷ text_of lines

abbrev pub generated : ℕ → ℕ → List ℕ
generated seed events = text_of (generated_lines seed events)
