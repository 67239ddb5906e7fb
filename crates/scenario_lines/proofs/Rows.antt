-- Each step has its row in the table of version 2, and its values make it again.
use Rattle.scenario_lines.proofs.Prelude.{◌≡◌, true, Some, refl, Step, End, Row, Parts, in_row, parts_of, made, is_unspaced}
use Rattle.scenario_text.specs.Table.{row_of, first_row_of, source_row_of, sink_row_of, link_row_of, row_of_2, link_row_of_2}

abbrev pub made_of : Parts → Step
made_of (in_row row values) = made row.places row.build values

abbrev pub row_at : Parts → Row
row_at (in_row row values) = row

-- the row and the values of a step
pub record HasRow (step : Step) : Type 0 where
  pub made : made_of (parts_of step) ≡ step
  pub unspaced : is_unspaced (row_at (parts_of step)).first ≡ true
  pub known : row_of 2 (row_at (parts_of step)).first ≡ Some (row_at (parts_of step))

pub has_row : (step : Step) → HasRow step
unfolding row_of first_row_of source_row_of sink_row_of link_row_of row_of_2 link_row_of_2
has_row End = record { made = refl; unspaced = refl; known = refl }
has_row other = record { made = refl; unspaced = refl; known = refl }
