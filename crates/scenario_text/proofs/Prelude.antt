-- What the proofs of this crate use of `std` and of the crates below it, by one import.
pub use Rattle.std.proofs.Common.{◌≡◌, ◌≤◌, ℕ, Bool, true, false, cond, nat_eq, List, [], ◌∷◌, length, Option, None, Some, sym, ◌∙◌, subst, arith, inl, inr, ◌+◌, ◌++◌, refl, ◌<◌, suc, ◌||◌, take, Result, Ok, Err, ap, zero, eqb-true, not, get_or, drop, append_assoc, ◌/◌, ◌%◌, nat_lt, ◌^◌, ◌&&◌, add-one}
pub use Rattle.std.proofs.lemmas.Bool.{and_parts, cases_lt, false_from_ne_true, not-true}
pub use Rattle.std.proofs.lemmas.Option.{same_Some}
pub use Rattle.std.specs.List.{flat_map, AllByRecursion, slice_get}
pub use Rattle.std.specs.Prelude.{⊤, IfOk, IfSome, IfNone, ◌==◌}
pub use Rattle.bass_operations.specs.Layout.{MetadataFits, group_of, encoding}
pub use Rattle.bass_operations.specs.declared.operation.AddSource.{AddSource}
pub use Rattle.bass_operations.specs.declared.operation.ModifySource.{ModifySource}
pub use Rattle.bass_operations.specs.declared.operation.Operation.TheVariants.{Add, Modify}
pub use Rattle.bass_operations.specs.declared.wishes.Wish.{Wish}
pub use Rattle.bcast_base.proofs.Citable.{bind_ok, number-length}
pub use Rattle.bcast_base.specs.Encoding.{IsOctets}
pub use Rattle.bcast_base.specs.Layout.{laid}
pub use Rattle.bcast_base.specs.Subgroups.{subgroup_fields}
pub use Rattle.bcast_base.specs.Tries.{◌>>=◌}
pub use Rattle.scenario_text.specs.Lines.{Says, LineIs, IsBlank}
pub use Rattle.scenario_text.specs.MigratedLines.{lines_of, behind, text_of, lines_after}
pub use Rattle.scenario_text.specs.Misfits.{FitsLine, IsMisfit}
pub use Rattle.scenario_text.specs.Ranges.{IsInRange}
pub use Rattle.scenario_text.specs.Steps.{built_at, at_known, whole, line_after}
pub use Rattle.scenario_text.specs.Table.{Build, Row, row_in, event_rows, first_rows, source_rows, sink_rows, link_rows, rows_of_2, link_rows_of_2}
pub use Rattle.scenario_text.specs.declared.step.Step.{Step}
pub use Rattle.scenario_words.proofs.Citable.{is_small, word_spelled, bounded_is, Stops, misfit, bad_is, indices_first, indices_stop, indices_all, pairs_stop, pairs_end, place_again, place_spelled, IsLast}
pub use Rattle.scenario_words.specs.Fitting.{FitsIndices, FitsPairs, FitsPrefix}
pub use Rattle.scenario_words.specs.Joined.{onto_first}
pub use Rattle.scenario_words.specs.Places.{WordPlace, between, Place, one, perhaps, rising, wishes, WordValue, framing_word, time_up_to, octets_up_to, octets_exactly, number_in_octets, list_up_to, PlaceValue, wishes_octets}
pub use Rattle.scenario_words.specs.Reading.{Left, Gives, any_word, next_of, ended, taken, word_in, decimal_in, with_stream, streams_of, rising_of, perhaps_of, wishes_of, bounded, all_wishes_of, at_place}
pub use Rattle.scenario_words.specs.Words.{words_of}
pub use Rattle.scenario_words.specs.declared.fault.LineFault.{LineFault}
pub use Rattle.std.specs.Option.{ForSome, is_some}
pub use Rattle.scenario_words.specs.Spelling.{Spells, SpellsWord, SpellsOctets, SpellsWishes}
pub use Rattle.scenario_words.specs.Lines.{◌▸◌, Values, AllHaveWords, all_words}
pub use Rattle.std.proofs.lemmas.List.{length-append, take_all, take-take, append-nil, drop-append-le, drop-drop, drop_at, length-drop, take-append-drop, take-append-le, take_at, take_rest}
pub use Rattle.scenario_text.specs.declared.step.Step.TheVariants.{Sink, Pac, Locate, Context, Tuned, Hear, Air, Inject, Announce, Train, Show, Lose, Drop, Control, Forge}
pub use Rattle.scenario_words.proofs.CitableValues.{EndsAt, words_spelled, words_unspaced, NoSpaces, more_unspaced, all_have}
