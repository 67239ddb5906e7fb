-- The number of a line that is no line of the scenario language, which is this project's own (BadLine), by the words that
-- fit: the first so many words fit the places of some line, and no more do.
use Rattle.std.specs.Prelude.{◌≡◌, ◌≤◌, ◌<◌, ℕ, suc, List, [], ◌∷◌, length, take, ⊤, Some}
use Rattle.scenario_words.specs.Words.{words_of}
use Rattle.scenario_words.specs.Fitting.{FitsPrefix}
use Rattle.scenario_text.specs.declared.step.Step.{Step}
use Rattle.scenario_text.specs.Table.{Row, row_of}
use Rattle.scenario_text.specs.Lines.{LineIs, IsBlank}

-- the words fit the first places of some line
abbrev pub FitsLine : ℕ → List (List ℕ) → Type 0
FitsLine version [] = ⊤
FitsLine version (first ∷ words) = (row : Row) × (row_of version first ≡ Some row) × FitsPrefix row.places words

-- a line that says no step, and isn't blank: its first k words fit, and no more do; where all fit, k is their number
pub record IsMisfit (version : ℕ) (line : List ℕ) (k : ℕ) : Type 0 where
  pub not_blank : IsBlank line → ⊥
  pub no_step : (step : Step) → LineIs version step line → ⊥
  pub within : k ≤ length (words_of line)
  pub fits : FitsLine version (take k (words_of line))
  pub no_more : k < length (words_of line) → FitsLine version (take (suc k) (words_of line)) → ⊥
