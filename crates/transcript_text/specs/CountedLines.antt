-- The lines of a text, each with the octet that ends it. What stands behind the last of these is a line too, without an end.
-- The transcript and its summary are this project's own.
use Rattle.std.specs.Prelude.{ℕ, ◌≡◌, ◌==◌, List, [], ◌∷◌, ◌++◌, if◌then◌else◌}
use Rattle.scenario_words.specs.Joined.{onto_first}
use Rattle.transcript_text.specs.Lines.{newline}

abbrev pub lines_of : List ℕ → List (List ℕ)
lines_of [] = []
lines_of (octet ∷ text) = if octet == newline then (octet ∷ []) ∷ lines_of text else onto_first octet (lines_of text)

-- the text is whole lines: what follows it begins a line
abbrev pub IsWhole : List ℕ → Type 0
IsWhole text = (more : List ℕ) → lines_of (text ++ more) ≡ lines_of text ++ lines_of more
