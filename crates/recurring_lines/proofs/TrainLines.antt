-- The line of a train says it in each version.
use Rattle.recurring_lines.proofs.Prelude.{◌≡◌, ℕ, true, List, [], ◌++◌, Some, Ok, ap, sym, ◌∙◌, subst, codes, Step, Left, LineTakes, some_takes}
use Rattle.scenario_text.specs.Steps.{at_row, read_of, step_of}
use Rattle.scenario_text.specs.Table.{train_row, row_of, first_row_of, source_row_of}
use Rattle.recurring_lines.proofs.FrequentLines.{all_whole, behind_first}

pub train_takes : (version : ℕ) (line words : List ℕ) (left : Left) → codes "train " ++ words ≡ line → left ≡ behind_first words → some_takes train_row.places left ≡ true
    → LineTakes version line
unfolding row_of first_row_of source_row_of
train_takes version line words left same begins takes = subst (LineTakes version) same (sym (ap (some_takes train_row.places) begins) ∙ takes)

pub train_read : (version : ℕ) (line words : List ℕ) (left after : Left) (made : Step) → codes "train " ++ words ≡ line → left ≡ behind_first words
    → at_row train_row left ≡ Ok (made, after) → after.words ≡ [] → read_of version line ≡ Ok (Some made)
unfolding read_of step_of row_of first_row_of source_row_of
train_read version line words left after made same begins is none = ap (read_of version) (sym same) ∙ all_whole train_row words left after made begins is none
