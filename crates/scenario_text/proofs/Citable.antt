-- What upper crates may cite: what holds of each row of the table, and that it holds of the row with a first word; and what
-- holds of an answer that is what a line reads as; the step that the values of a row make;
-- a text with an octet more.
pub use Rattle.scenario_text.proofs.Making.{all_unspaced, made, says}
pub use Rattle.scenario_text.proofs.MigratedLines.{onto_text, text_again}
pub use Rattle.scenario_text.proofs.Misfits.{result_misfit}
pub use Rattle.scenario_text.proofs.Octets.{nil_octets, cons_octets}
pub use Rattle.scenario_text.proofs.Rows.{EachRow, Fine, all_small, is_fine, is_word, none_more, of_each_row, of_table, takes_all, takes_all_last}
pub use Rattle.scenario_text.proofs.Steps.{is_in_range, is_found, is_read, is_blank}
