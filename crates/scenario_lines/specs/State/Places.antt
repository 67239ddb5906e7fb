-- The lines that are still to come, by where the generator stands.
use Rattle.std.specs.Prelude.{ℕ, ◌<◌, ◌≤◌, ◌+◌, List, [], ◌∷◌, ◌++◌, drop, codes}
use Rattle.scenario_lines.specs.Draws.{next_state, drawn}
use Rattle.scenario_lines.specs.Generated.{unit_line, air_line, head_lines, lines_from}
use Rattle.scenario_lines.specs.declared.made_lines.Place.{Place}
use Rattle.scenario_lines.specs.declared.made_lines.Place.TheVariants.{Head, FirstUnit, SecondUnit, Unit, OtherUnit, Event, Air, OtherAir, Over}

-- the draws were made up to this state, event x comes next, and so many events are left
abbrev pub left_at : Place → ℕ → ℕ → ℕ → List (List ℕ)
left_at (Head place) state x count = drop place head_lines ++ (unit_line 1 0 ∷ unit_line 2 0 ∷ lines_from state x count)
left_at FirstUnit state x count = unit_line 1 0 ∷ unit_line 2 0 ∷ lines_from state x count
left_at SecondUnit state x count = unit_line 2 0 ∷ lines_from state x count
left_at Unit state x count = lines_from state x count
left_at OtherUnit state x count =
    let first = next_state state in
    let second = next_state first in
    unit_line 2 (x + 1) ∷ codes "event" ∷ air_line 0 (drawn first) ∷ air_line 1 (drawn second) ∷ lines_from second (x + 1) count
left_at Event state x count =
    let first = next_state state in
    let second = next_state first in
    codes "event" ∷ air_line 0 (drawn first) ∷ air_line 1 (drawn second) ∷ lines_from second (x + 1) count
left_at Air state x count =
    let first = next_state state in
    let second = next_state first in
    air_line 0 (drawn first) ∷ air_line 1 (drawn second) ∷ lines_from second (x + 1) count
left_at OtherAir state x count = let second = next_state state in air_line 1 (drawn second) ∷ lines_from second (x + 1) count
left_at Over state x count = []

-- the place of one of the first lines is that of a line, and the events are at most as many as are made
abbrev pub IsPlace : Place → ℕ → ℕ → Type 0
IsPlace (Head place) x count = (place < 7) × (x + count ≤ 100000)
IsPlace FirstUnit x count = x + count ≤ 100000
IsPlace SecondUnit x count = x + count ≤ 100000
IsPlace Unit x count = x + count ≤ 100000
IsPlace Over x count = x + count ≤ 100000
IsPlace _ x count = x + 1 + count ≤ 100000
