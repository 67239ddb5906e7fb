-- What the proofs of this crate use of `std` and of the crates below it, by one import.
pub use Rattle.std.proofs.Common.{ℕ, ◌≡◌, ◌+◌, Bool, true, false, cond, eqb, leb, List, [], ◌∷◌, Option, Some, None, refl, ap, ◌∙◌, arith, zero, suc, ◌-◌, ◌<◌, ◌≤◌, ◌++◌, length, get_or, sym, subst, inl, inr, ◌≢◌, map, drop, slice_get, take, set, replicate, ◌*◌, ◌↔◌, ◌⊎◌, slice_set, option_map, Result, Ok, Err, ◌%◌, ◌/◌, ◌^◌, ltb, get_or-set_other, get_or-set_same, vec_len, length-set, add-one}
pub use Rattle.std.proofs.lemmas.Bool.{cond-true, eq-eqb, eqb-true, cases_Bool, cases_eq, cond-false, ne_eqb, lt-ltb, le-ltb, and_from, cases_lt}
pub use Rattle.std.proofs.lemmas.List.{append-nil, append_assoc, length-map, take_more, take-append-le, get_or-append_right, get_or-drop, length-append, length-take-le, map-append, set_at}
pub use Rattle.std.proofs.lemmas.List.Elements.{filter-append}
pub use Rattle.std.proofs.lemmas.List.FromFn.{length-range_with_len, get_or-range_with_len, get_or-map-range_with_len, length-map-range_with_len, map-range_with_len_more}
pub use Rattle.std.proofs.lemmas.Option.{same_Some, get_or_from_slice_get}
pub use Rattle.std.specs.List.{Contains, filter, flat_map, range_with_len, AllByRecursion}
pub use Rattle.big_info.specs.Bounds.{Bounds}
pub use Rattle.group_sink.specs.Calls.{Call, tune, hear, tick, leave, place, heard_where, heard_first, heard_calls}
pub use Rattle.group_sink.specs.Handing.{units_at_close, units_on, handed_by, handed_at, handed_since, bis_of, of_stream, units_by}
pub use Rattle.group_sink.specs.State.Receivers.{closed, fresh, owed_of, receiver_after, unframed_after, framed_after, open_of, answer_by, hear_by}
pub use Rattle.group_sink.specs.State.Sinks.{StandsFor, place_in, places_of, OnGroup, stream_after, on_after}
pub use Rattle.group_sink.specs.State.Steps.{owed_by, tick_at, fresh_on, answer_at, answer_on, hear_at, heard_at, hear_on, place_on, owed_on, tick_on, hear_where, hear_first, hear_all, all_heard_at, hear_all_on}
pub use Rattle.group_sink.specs.Streams.{number_of, stay_on, stream_calls, with_hear, is_in, streams_of, closes, with_tick}
pub use Rattle.group_sink.specs.declared.receiver.Receiver.{Receiver}
pub use Rattle.isoal_base.specs.Stays.{Stay, opened, window_of}
pub use Rattle.isoal_framed.specs.Histories.{gained, closed_tokens, decided, event_tokens, undecided_in}
pub use Rattle.isoal_unframed.specs.Histories.{units_of, unit_at, handed}
pub use Rattle.radio_schedule.specs.PayloadNumber.{payload_number, ahead_of}
pub use Rattle.sync_reference.specs.BigSync.{BigSync}
pub use Rattle.unit_outlets.specs.Handed.{Handed, Caused, HandsOver, Counts}
pub use Rattle.std.specs.Int.{bit_at}
pub use Rattle.bcast_base.specs.Bis.{Has}
pub use Rattle.isoal_framed.proofs.Citable.{close_gains, decides_nothing}
pub use Rattle.big_info.specs.declared.info.BigInfo.{BigInfo}
pub use Rattle.group_sink.specs.Hearings.{hearing_on, hearing_at, hearing_of, entries_of, segments_of, heard_on}
pub use Rattle.std.proofs.lemmas.Nat.{mul-le, leading_length}
pub use Rattle.group_sink.specs.declared.receiver.Receiver.TheVariants.{Unframed, Framed}
