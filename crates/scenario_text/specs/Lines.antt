-- Which line of the scenario language, which is this project's own, says which step: the table of the lines as a relation,
-- beside which stands the reading of a line.
use Rattle.std.specs.Prelude.{◌≡◌, ℕ, List, [], ◌∷◌, ⊤, Some}
use Rattle.scenario_words.specs.Words.{words_of}
use Rattle.scenario_words.specs.Places.{Place, PlaceValue}
use Rattle.scenario_words.specs.Spelling.{Spells}
use Rattle.scenario_text.specs.Table.{Build, Row, row_of}
use Rattle.scenario_text.specs.declared.step.Step.{Step}

-- the words spell values at these places in order, the values make the step, and no word follows
abbrev pub Says : (places : List Place) → Build places → Step → List (List ℕ) → Type 0
Says [] built step words = (built ≡ step) × (words ≡ [])
Says (place ∷ places) build step words =
    (value : PlaceValue place) × (rest : List (List ℕ)) × Spells place value words rest × Says places (build value) step rest

-- the line says the step: its first word is that of a row of the table, and its other words spell the values of the step
-- at the places of that row
pub record LineIs (version : ℕ) (step : Step) (line : List ℕ) : Type 0 where
  pub first : List ℕ
  pub words : List (List ℕ)
  pub split : words_of line ≡ first ∷ words
  pub row : Row
  pub known : row_of version first ≡ Some row
  pub spelled : Says row.places row.build step words

-- the octet that begins a comment
abbrev pub comment : ℕ
comment = 35

-- the line is no step: it is empty or a comment
abbrev pub IsBlank : List ℕ → Type 0
IsBlank [] = ⊤
IsBlank (octet ∷ line) = octet ≡ comment
