-- The values at the places of a line of a scenario, this project's own, in order: whether all have words, and the words that
-- are written for them.
use Rattle.std.specs.Prelude.{ℕ, List, [], ◌∷◌, ◌++◌, ⊤}
use Rattle.scenario_words.specs.Places.{Place, PlaceValue}
use Rattle.scenario_words.specs.ValueFitting.{HasWords}
use Rattle.scenario_words.specs.ValueWords.{words_for}

-- a value for each place
abbrev pub Values : List Place → Type 0
Values [] = ⊤
Values (place ∷ places) = PlaceValue place × Values places

-- one more value in front
infixr 5 ◌▸◌
abbrev pub ◌▸◌ : {A B : Type 0} → A → B → A × B
value ▸ others = (value, others)

abbrev pub AllHaveWords : (places : List Place) → Values places → Type 0
AllHaveWords [] values = ⊤
AllHaveWords (place ∷ places) values = HasWords place values.0 × AllHaveWords places values.1

abbrev pub all_words : (places : List Place) → Values places → List (List ℕ)
all_words [] values = []
all_words (place ∷ places) values = words_for place values.0 ++ all_words places values.1
