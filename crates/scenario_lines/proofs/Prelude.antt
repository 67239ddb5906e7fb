-- What the proofs of this crate use of `std` and of the crates below it, by one import.
pub use Rattle.std.proofs.Common.{◌≡◌, ◌≤◌, ◌<◌, ◌+◌, ◌-◌, ℕ, zero, suc, Bool, true, false, cond, List, [], ◌∷◌, ◌++◌, drop, length, Some, refl, ap, sym, ◌∙◌, arith, codes, ◌≢◌, nat_eq, map, get_or, decimal, append_assoc, ◌/◌, w16, w32, ◌%◌, None, subst, Result, Ok, Err, ◌==◌, eqb-true, rules, add-one}
pub use Rattle.scenario_lines.specs.Generated.{unit_of, head_lines, generated, text_of}
pub use Rattle.scenario_lines.specs.State.Places.{left_at}
pub use Rattle.scenario_lines.specs.declared.made_lines.Place.{Place}
pub use Rattle.scenario_text.proofs.Citable.{made, nil_octets, cons_octets, all_small, is_word, of_table, takes_all_last, all_unspaced, says, EachRow, of_each_row, is_in_range, is_found, is_read, is_blank, result_misfit}
pub use Rattle.scenario_text.specs.Lines.{LineIs, Says}
pub use Rattle.scenario_text.specs.Table.{Row, unit_row, event_row, air_row, Build}
pub use Rattle.scenario_text.specs.Written.{placed_line, Parts, in_row, parts_of, Fits, line_of, placed_in, PlacedFits}
pub use Rattle.scenario_text.specs.declared.step.Step.{Step}
pub use Rattle.scenario_text.specs.declared.step.Step.TheVariants.{Unit, Event, Air, End}
pub use Rattle.scenario_words.proofs.CitableValues.{is_unspaced, all_words_given, next_item, joined_split, unspaced, words_fit}
pub use Rattle.scenario_words.specs.Lines.{Values, AllHaveWords, ◌▸◌, all_words}
pub use Rattle.std.specs.Prelude.{slice_get, replicate, nat_lt}
pub use Rattle.std.specs.Int.{bit_at, to_le_bytes}
pub use Rattle.std.proofs.lemmas.List.{append-nil, drop_all, length-replicate}
pub use Rattle.scenario_words.specs.Joined.{behind, joined}
pub use Rattle.bcast_base.specs.Encoding.{IsOctets}
pub use Rattle.std.proofs.lemmas.Bool.{and_parts, lt-ltb}
