-- The summary of a transcript: how many units its sinks handed up, and their sums. The transcript and its summary are this
-- project's own.
use Rattle.std.specs.Prelude.{ℕ, ◌+◌, ◌&&◌, not, nat_eq, Bool, List, [], ◌∷◌, ◌++◌, length, cond, codes, decimal}
use Rattle.std.specs.List.{starts_with, ends_with, filter, concat}
use Rattle.scenario_words.specs.Joined.{joined}
use Rattle.transcript_text.specs.CountedLines.{lines_of}
use Rattle.transcript_text.specs.Lines.{newline}
use Rattle.transcript_text.specs.declared.counts.Counts.{Counts}

-- ---- the lines that count

abbrev pub begins_unit : List ℕ → Bool
begins_unit line = starts_with nat_eq line (codes "unit ")

abbrev pub ends_lost : List ℕ → Bool
ends_lost line = ends_with nat_eq line (codes " lost" ++ newline ∷ [])

abbrev pub is_valid_line : List ℕ → Bool
is_valid_line line = begins_unit line && not (ends_lost line)

abbrev pub is_lost_line : List ℕ → Bool
is_lost_line line = begins_unit line && ends_lost line

abbrev pub is_sum_line : List ℕ → Bool
is_sum_line line = starts_with nat_eq line (codes "sum ")

-- ---- what lines say

abbrev pub none_counted : Counts
none_counted = record { valid = 0; lost = 0; sums = [] }

abbrev pub with_lines : Counts → List (List ℕ) → Counts
with_lines counts lines = record {
  valid = counts.valid + length (filter is_valid_line lines);
  lost = counts.lost + length (filter is_lost_line lines);
  sums = counts.sums ++ concat (filter is_sum_line lines);
}

-- with one line beside
abbrev pub with_line : Counts → List ℕ → Counts
with_line counts line = record {
  valid = counts.valid + cond (is_valid_line line) 1 0;
  lost = counts.lost + cond (is_lost_line line) 1 0;
  sums = counts.sums ++ cond (is_sum_line line) line [];
}

abbrev pub counts_of : List ℕ → Counts
counts_of text = with_lines none_counted (lines_of text)

-- ---- the summary

abbrev pub summary_of : ℕ → Counts → List ℕ
summary_of events counts = joined (codes "events") (decimal events ∷ [])
    ++ newline ∷ (joined (codes "units") (decimal counts.valid ∷ codes "lost" ∷ decimal counts.lost ∷ []) ++ newline ∷ counts.sums)

-- Summary: `events E`, then `units V lost L` with the numbers of valid and lost unit lines of the transcript, then its `sum` lines
abbrev pub summary : ℕ → List ℕ → List ℕ
summary events transcript = summary_of events (counts_of transcript)
