-- A text in version 2 of the scenario language, which is this project's own: the first line that is neither empty nor a
-- comment says version 2 where it said version 1.
use Rattle.std.specs.Prelude.{ℕ, Bool, true, List, [], ◌∷◌, ◌==◌, if◌then◌else◌, codes, bytes_eq}
use Rattle.scenario_text.specs.MigratedLines.{lines_of, text_of}

abbrev pub is_blank : List ℕ → Bool
is_blank [] = true
is_blank (octet ∷ line) = octet == 35

abbrev pub migrated_line : List ℕ → List ℕ
migrated_line line = if bytes_eq line (codes "scenario 1") then codes "scenario 2" else line

abbrev pub migrated_lines : List (List ℕ) → List (List ℕ)
migrated_lines [] = []
migrated_lines (line ∷ lines) = if is_blank line then line ∷ migrated_lines lines else migrated_line line ∷ lines

unfoldable pub migrated : List ℕ → List ℕ
migrated text = text_of (migrated_lines (lines_of text))
