-- The words of a line of a scenario, this project's own: what stands between single spaces. Between two spaces side by side
-- stands an empty word.
use Rattle.std.specs.Prelude.{ℕ, List, [], ◌∷◌, ◌==◌, if◌then◌else◌}
use Rattle.scenario_words.specs.Joined.{onto_first, space}

abbrev pub words_of : List ℕ → List (List ℕ)
words_of [] = [] ∷ []
words_of (octet ∷ line) = if octet == space then [] ∷ words_of line else onto_first octet (words_of line)
