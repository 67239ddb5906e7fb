-- The line of a step says it where it fits, and a step that a line says fits.
use Rattle.scenario_lines.proofs.Prelude.{◌≡◌, ℕ, true, List, Some, subst, Values, AllHaveWords, all_words, is_unspaced, joined_split, unspaced, Step, Row, LineIs, Parts, in_row, parts_of, placed_in, placed_line, PlacedFits, Fits, line_of, all_small, is_word, made, of_table, takes_all_last, all_unspaced, says, and_parts, joined}
use Rattle.scenario_text.specs.Table.{row_of}
use Rattle.scenario_lines.proofs.StepLines.{said, row_fits}
use Rattle.scenario_lines.proofs.Rows.{has_row, made_of, row_at}

-- the words of a row of a version, with values that have words, say the step that these make
pub row_says : (version : ℕ) (row : Row) (values : Values row.places) → is_unspaced row.first ≡ true → row_of version row.first ≡ Some row
    → AllHaveWords row.places values → LineIs version (made row.places row.build values) (joined row.first (all_words row.places values))
row_says version row values unspaced_first known h =
    let fine = of_table version row.first row known in
    let parts = and_parts (is_word row.first) _ fine.fine in
    let places = and_parts (all_small row.places) (takes_all_last row.places) parts.1 in
    record {
      first = row.first;
      words = all_words row.places values;
      split = joined_split row.first (all_words row.places values) (unspaced row.first unspaced_first) (all_unspaced row.places values places.0 h);
      row = row;
      known = known;
      spelled = says row.places row.build values places.1 h;
    }

says_parts : (parts : Parts) (step : Step) → made_of parts ≡ step → is_unspaced (row_at parts).first ≡ true → row_of 2 (row_at parts).first ≡ Some (row_at parts)
    → PlacedFits (placed_in parts) → LineIs 2 step (placed_line (placed_in parts))
says_parts (in_row row values) this made unspaced_first known h =
    subst (λ (s : Step). LineIs 2 s (joined row.first (all_words row.places values))) made (row_says 2 row values unspaced_first known h)

pub its_line : (step : Step) → Fits step → LineIs 2 step (line_of step)
its_line step h = let has = has_row step in says_parts (parts_of step) step has.made has.unspaced has.known h

pub it_fits : (step : Step) (line : List ℕ) → LineIs 2 step line → Fits step
it_fits step line is =
    let valued = said is.row.places is.row.build step is.words is.spelled in
    subst Fits valued.make (row_fits is.first is.row is.known valued.values valued.have)
