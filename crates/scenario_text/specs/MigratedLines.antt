-- The lines of a text of the scenario language, which is this project's own: what stands between the octets that end a
-- line. What stands behind the last of these is a line too.
use Rattle.std.specs.Prelude.{ℕ, List, [], ◌∷◌, ◌++◌, ◌==◌, if◌then◌else◌, Option, None, Some}
use Rattle.std.specs.Borrow.{Bor}
use Rattle.scenario_words.specs.Joined.{onto_first}

abbrev pub newline : ℕ
newline = 10

abbrev pub lines_of : List ℕ → List (List ℕ)
lines_of [] = [] ∷ []
lines_of (octet ∷ text) = if octet == newline then [] ∷ lines_of text else onto_first octet (lines_of text)

abbrev pub behind : List (List ℕ) → List ℕ
behind [] = []
behind (line ∷ lines) = newline ∷ (line ++ behind lines)

abbrev pub text_of : List (List ℕ) → List ℕ
text_of [] = []
text_of (line ∷ lines) = line ++ behind lines

-- the lines of what follows a line that has an end
abbrev pub lines_after : Option (Bor (List ℕ)) → List (List ℕ)
lines_after None = []
lines_after (Some text) = lines_of text.now
