-- The lines of a scenario text. The text, the octet that ends its lines and its limits are this project's own.
use Rattle.std.specs.Prelude.{ℕ, ◌≡◌, ◌≢◌, ◌+◌, ◌==◌, All, nat_le, Bool, true, List, [], ◌∷◌, ◌++◌, length, map, take, if◌then◌else◌}
use Rattle.std.specs.List.{concat}

abbrev pub newline : ℕ
newline = 10

-- no octet ends a line
abbrev pub NoNewline : List ℕ → Type 0
NoNewline xs = All (λ x. x ≢ newline) xs

-- the most octets of a text, and of a line without its end
abbrev pub text_limit : ℕ
text_limit = 67108864

abbrev pub line_limit : ℕ
line_limit = 9000

-- a line is its octets without the end, or has more than the limit of them, or holds the octet past the limit of the text
pub data TextLine : Type 0 where
  plain : List ℕ → TextLine
  too_long : TextLine
  past : TextLine

abbrev pub line_of : List ℕ → TextLine
line_of octets = if nat_le (length octets) line_limit then plain octets else too_long

-- the line that the end of the text ends, where there is one
abbrev pub last_line : Bool → List ℕ → List TextLine
last_line true (x ∷ xs) = line_of (x ∷ xs) ∷ []
last_line _ _ = []

-- The lines of what follows `taken` octets of a text, of which the last are `part`, the line so far. What follows is the
-- rest of the text, or a prefix of it, whose last line is not whole yet. A line past the limit of the text is the last.
unfoldable pub lines_from : Bool → ℕ → List ℕ → List ℕ → List TextLine
lines_from at_end taken part [] = last_line at_end part
lines_from at_end taken part (x ∷ xs) = if nat_le text_limit taken then past ∷ []
    else (if x == newline then line_of part ∷ lines_from at_end (taken + 1) [] xs
    else lines_from at_end (taken + 1) (part ++ x ∷ []) xs)

-- the lines of a text, or the whole lines of a prefix of it
abbrev pub lines_of : Bool → List ℕ → List TextLine
lines_of at_end text = lines_from at_end 0 [] text

-- ---- the same lines, by what a reader of the text checks

-- the octets of a line with its end
abbrev pub with_end : List ℕ → List ℕ
with_end octets = octets ++ newline ∷ []

-- the line behind the last end, where there is one: the one that holds the octet past the limit of the text, or the one that
-- the end of the text ends
abbrev pub line_behind : Bool → List ℕ → List ℕ → List TextLine
line_behind at_end text rest = if nat_le (length text) text_limit then last_line at_end rest else past ∷ []

-- These are the lines of a text, or the whole lines of a prefix of it: with their ends, put together, they are the text, up to
-- its limit; each goes to its first end; and none is split or joined with another.
pub record AreLines (at_end : Bool) (text : List ℕ) (lines : List TextLine) : Type 0 where
  -- the octets of each line that has an end, and those behind the last end
  pub whole : List (List ℕ)
  pub rest : List ℕ
  pub together : take text_limit text ≡ concat (map with_end whole) ++ rest
  pub apart : All NoNewline whole
  pub unended : NoNewline rest
  pub lines_are : lines ≡ map line_of whole ++ line_behind at_end text rest
