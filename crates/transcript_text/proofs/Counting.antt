-- What lines say, one after the other.
use Rattle.std.proofs.Common.{◌≡◌, ℕ, ◌+◌, Bool, List, ◌++◌, length, ap, sym, ◌∙◌, arith, length-append}
use Rattle.std.proofs.lemmas.List.Elements.{filter-append}
use Rattle.std.proofs.lemmas.List.Folds.{concat-append}
use Rattle.std.specs.List.{filter, concat}
use Rattle.transcript_text.specs.CountedLines.{lines_of, IsWhole}
use Rattle.transcript_text.specs.Summary.{is_valid_line, is_lost_line, is_sum_line, none_counted, with_lines, counts_of}
use Rattle.transcript_text.specs.declared.counts.Counts.{Counts}

abbrev counts_with : ℕ → ℕ → List ℕ → Counts
counts_with v l s = record { valid = v; lost = l; sums = s }

same_counts : (v v' l l' : ℕ) (s s' : List ℕ) → v ≡ v' → l ≡ l' → s ≡ s' → counts_with v l s ≡ counts_with v' l' s'
same_counts v v' l l' s s' ev el es = ap (λ n. counts_with n l s) ev ∙ ap (λ n. counts_with v' n s) el ∙ ap (counts_with v' l') es

counted_append : (p : List ℕ → Bool) (xs ys : List (List ℕ)) → (0 + length (filter p xs)) + length (filter p ys) ≡ 0 + length (filter p (xs ++ ys))
counted_append p xs ys = omega (arith, ap length (filter-append p xs ys), length-append (filter p xs) (filter p ys))

kept_append : (p : List ℕ → Bool) (xs ys : List (List ℕ)) → concat (filter p xs) ++ concat (filter p ys) ≡ concat (filter p (xs ++ ys))
kept_append p xs ys = sym (ap concat (filter-append p xs ys) ∙ concat-append (filter p xs) (filter p ys))

lines_append : (xs ys : List (List ℕ)) → with_lines (with_lines none_counted xs) ys ≡ with_lines none_counted (xs ++ ys)
lines_append xs ys =
    same_counts _ _ _ _ _ _ (counted_append is_valid_line xs ys) (counted_append is_lost_line xs ys) (kept_append is_sum_line xs ys)

-- whole lines, and then more text
pub counts_append : (text more : List ℕ) → IsWhole text → with_lines (counts_of text) (lines_of more) ≡ counts_of (text ++ more)
counts_append text more whole = lines_append (lines_of text) (lines_of more) ∙ ap (with_lines none_counted) (sym (whole more))
