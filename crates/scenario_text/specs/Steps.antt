-- What a line says, as a step of the scenario language, which is this project's own: its words are tried from left to right.
use Rattle.std.specs.Prelude.{ℕ, ◌==◌, if◌then◌else◌, List, [], ◌∷◌, Option, None, Some, Result, Ok, Err}
use Rattle.scenario_words.specs.declared.fault.LineFault.{LineFault}
use Rattle.scenario_words.specs.declared.fault.LineFault.TheVariants.{BadLine}
use Rattle.scenario_words.specs.Words.{words_of}
use Rattle.scenario_words.specs.Places.{Place}
use Rattle.bcast_base.specs.Tries.{◌>>=◌}
use Rattle.scenario_words.specs.Reading.{Left, any_word, next, at_place, ended}
use Rattle.scenario_text.specs.declared.step.Step.{Step}
use Rattle.scenario_text.specs.Table.{Build, Row, row_of}
use Rattle.scenario_text.specs.Lines.{comment}

abbrev pub built_at : (places : List Place) → Build places → Left → Result (Step × Left) LineFault
built_at [] step left = Ok (step, left)
built_at (place ∷ places) build left = at_place place left >>= λ value. built_at places (build value.0) value.1

abbrev pub at_row : Row → Left → Result (Step × Left) LineFault
at_row row left = built_at row.places row.build left

-- no first word but those of the table is known
abbrev pub at_known : Option Row → Left → Result (Step × Left) LineFault
at_known None left = Err (BadLine 0)
at_known (Some row) left = at_row row left

abbrev pub whole : Step × Left → Result Step LineFault
whole step = ended step.1.read step.1.words >>= λ none. Ok step.0

abbrev pub line_after : ℕ → List ℕ × Left → Result Step LineFault
line_after version first = at_known (row_of version first.0) first.1 >>= whole

-- the step of a line that is neither empty nor a comment
unfoldable pub step_of : ℕ → List ℕ → Result Step LineFault
step_of version line = next any_word (record { words = words_of line; read = 0 }) >>= line_after version

-- what a line of a scenario of this version reads as: a step, None for a line that says no step, or its fault
unfoldable pub read_of : ℕ → List ℕ → Result (Option Step) LineFault
read_of version [] = Ok None
read_of version (octet ∷ line) = if octet == comment then Ok None else step_of version (octet ∷ line) >>= λ step. Ok (Some step)
