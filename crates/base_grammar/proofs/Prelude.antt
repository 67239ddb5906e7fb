-- What the proofs of this crate use of `std` and of the crates below it, by one import.
pub use Rattle.std.proofs.Common.{◌≡◌, ℕ, suc, ◌+◌, ◌-◌, ◌≤◌, Bool, true, false, cond, ltb, eqb, List, [], ◌∷◌, ◌++◌, length, get_or, map, Some, None, Result, Ok, Err, refl, sym, ap, ◌∙◌, append_assoc, arith, ◌<◌, Option, subst, zero, take, add-zero, zero-add, ◌==◌, ◌||◌, inl, inr, ◌⊎◌, drop, ◌^◌, ◌≢◌, ◌↔◌}
pub use Rattle.std.proofs.lemmas.Bool.{ltb-false, le-ltb, lt-ltb, cases_lt, eqb-true, ltb-true, eqb-false, false_from_ne_true, eq-eqb, ne_eqb}
pub use Rattle.std.proofs.lemmas.List.{append-nil, map_push, take_at, length-append, append_cancel_left, length-take, take-append-drop}
pub use Rattle.std.proofs.lemmas.List.Concat.{flat_map-cons}
pub use Rattle.std.proofs.lemmas.List.Folds.{list_any-append, length-flat_map-take, concat-append}
pub use Rattle.std.proofs.lemmas.Option.{same_Some, some_pair_parts}
pub use Rattle.std.proofs.lemmas.Result.{err_from_is_err_and}
pub use Rattle.std.specs.List.{flat_map, AllByRecursion, concat, list_any, find}
pub use Rattle.std.specs.Option.{ForSome, option_map, SomeIff, option_or, is_none}
pub use Rattle.std.specs.Prelude.{is_some, OnOk, OnErr, IfOk, IfErr, IsOk, IsTrue, slice_get, IfSome}
pub use Rattle.base_grammar.specs.Draft.{last_of, is_empty_last, finish_fault, closed, with_last, IsDraft, opened, subgroup_fault, metadata_fault, entry_fault, size_fault, draft_fault, Refuses}
pub use Rattle.base_grammar.specs.Effective.{effective_from, values_of, entry_of, or_behind, effective_of, IsEffective}
pub use Rattle.base_grammar.specs.Faults.{Row, presentation_delay, num_subgroups, num_bis, codec_id, config_length, config, metadata_length, metadata, bis_index, bis_config_length, bis_config, nothing, Due, first_due, width, row_fault, next_due, IsDue, Meets, field_fault, cut_fault, AtCut, number_of, ending_fault, IsFault, behind_entry, behind_subgroup}
pub use Rattle.base_grammar.specs.Layout.{Endpoint, endpoint, is_lc3, subgroup, bis_of, indices, stands_in, AreNew, IsConfig, EntryFits, SubgroupFits, HasEntry, IsBase, entry, encoding, BaseIs, HasCodec}
pub use Rattle.base_grammar.specs.Reading.{told, field_at, unless, ended, rest_of}
pub use Rattle.base_grammar.specs.Rows.{subgroups_fault, streams_fault, index_fault, run_fault}
pub use Rattle.base_grammar.specs.declared.fault.BaseFault.{BaseFault}
pub use Rattle.base_grammar.specs.declared.fault.BaseFault.TheVariants.{Short, TooLong, Trailing, NoSubgroup, NoBis, BadIndex, IndexTwice}
pub use Rattle.base_grammar.specs.declared.subgroup.BaseEntry.{BaseEntry}
pub use Rattle.base_grammar.specs.declared.subgroup.Subgroup.{Subgroup}
pub use Rattle.bcast_base.proofs.Citable.{ok_is, octets_again, number_again, IsOctets-prefix, Takes-then, octet_takes, octets_take, number_takes, bind_ok, number-length, counted_again, needed_ok}
pub use Rattle.bcast_base.specs.Encoding.{IsOctets, counted, number, octet}
pub use Rattle.bcast_base.specs.Reading.{octets_in, number_in, place_in, octet_in, Takes, counted_in}
pub use Rattle.bcast_base.specs.Tries.{◌>>=◌, Answers, FindsOrWants, Finds}
pub use Rattle.ltv_codec.proofs.Citable.{reads, list_read, read_list, list_in, are_read}
pub use Rattle.ltv_codec.specs.Faults.{IsBad, StandsZero}
pub use Rattle.ltv_codec.specs.Layout.{AreLtvs, IsLtvList, structure}
pub use Rattle.ltv_codec.specs.Reading.{ltvs_in, bad_of, ltvs_of}
pub use Rattle.ltv_codec.specs.declared.fault.LtvBad.{LtvBad}
pub use Rattle.ltv_codec.specs.declared.ltvs.Ltv.{Ltv}
pub use Rattle.std.specs.Result.{result_unwrap_or, result_err}
pub use Rattle.base_grammar.specs.Ad.{IsEnd, IsAdList, IsAdShort, service_in, first_service}
pub use Rattle.base_grammar.specs.AdReading.{ads_read, ads_of, ads_in, service_of}
