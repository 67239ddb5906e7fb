-- A line is words with one space between each two. Lines are this project's own.
use Rattle.std.specs.Prelude.{ℕ, List, [], ◌∷◌, ◌++◌}

abbrev pub space : ℕ
space = 32

abbrev pub onto_first : ℕ → List (List ℕ) → List (List ℕ)
onto_first octet [] = (octet ∷ []) ∷ []
onto_first octet (first ∷ others) = (octet ∷ first) ∷ others

abbrev pub behind : List (List ℕ) → List ℕ
behind [] = []
behind (word ∷ words) = space ∷ (word ++ behind words)

abbrev pub joined : List ℕ → List (List ℕ) → List ℕ
joined first words = first ++ behind words
