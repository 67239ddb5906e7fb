-- What the proofs of this crate use of `std` and of the crates below it, by one import.
pub use Rattle.std.proofs.Common.{ℕ, ◌≡◌, ◌<◌, ◌≤◌, ◌+◌, ◌-◌, ◌*◌, List, [], ◌∷◌, length, get_or, arith, ◌∙◌, ap, sym, subst, inl, inr, Some, ◌++◌, map, refl, Option, false, set, get_or-set_other, get_or-set_same, length-set, suc, take, append_assoc, Result, Ok, Err, ◌≢◌, zero, Bool, true, None, ◌/◌, ◌%◌, min, ◌^◌, not, cond, eqb, lit<, IsTrue, IsFalse, drop}
pub use Rattle.std.proofs.Math.Nat.{div-lt_iff_lt-mul, mul-le-mul_left}
pub use Rattle.std.proofs.lemmas.Bool.{cases_eq, cases_lt, eq-eqb, ne_eqb, lt-leb, le-ltb, lt-ltb, le-leb, and_from}
pub use Rattle.std.proofs.lemmas.List.{length-drop, length-append, length-map, map-append, append-nil, get_or-append_right, get_or_append_left, get_or_default, map_more}
pub use Rattle.std.proofs.lemmas.List.Elements.{length_all_zip, AllZip-get_or, All-set}
pub use Rattle.std.proofs.lemmas.List.FromFn.{get_or-map-range_with_len, length-map-range_with_len}
pub use Rattle.std.proofs.lemmas.Nat.{div-mul-add, mod-mul-add, mul-le, mod_below, mul-add-lt}
pub use Rattle.std.proofs.lemmas.Option.{slice_get-get_or, none-some, same_Some, slice_get-map, slice_get_past, slice_get_within}
pub use Rattle.std.specs.List.{AllZip, range_with_len, slice_get, flat_map, All, slice_index}
pub use Rattle.std.specs.Option.{option_and_then, option_map}
pub use Rattle.std.specs.Prelude.{unwrap_or, ◌&&◌, ◌||◌, nat_le, if◌then◌else◌, nat_lt, IsSome}
pub use Rattle.std.specs.Result.{IfErr, OnOk, IsErrAnd, OnErr, IfOk, IsOk}
pub use Rattle.big_info.specs.Schedule.{horizon_of, group_count, per_event_of}
pub use Rattle.big_info.specs.Time.{iso_us_of, mic_octets, mpt_of, sync_delay_of}
pub use Rattle.big_info.specs.declared.group.Group.{Group}
pub use Rattle.big_info.specs.declared.info.BigInfo.{BigInfo}
pub use Rattle.isoal_base.proofs.Citable.{map_append, map_rest, map_same}
pub use Rattle.isoal_base.specs.Air.{Air, begun_in, event_at, Laid, pdu_at, Entry}
pub use Rattle.isoal_framed.proofs.Citable.{framed_air_is, one_air, flat_same, flat_last}
pub use Rattle.isoal_framed.specs.Air.{IsFramedAir, IsAirOf, begun_by}
pub use Rattle.isoal_framed.specs.Calls.{Timed}
pub use Rattle.isoal_framed.specs.Filling.{framed_air}
pub use Rattle.isoal_unframed.specs.Air.{unframed_air, laid_u, before_event, unit_at}
pub use Rattle.isoal_unframed.specs.Calls.{lays, accepted, begun, accept, lay}
pub use Rattle.radio_schedule.specs.PayloadNumber.{payload_number, ahead_of}
pub use Rattle.source_machine.specs.Airs.{AreAirs, Sends, airs_of, pdu_of, air_after, air_of, waiting_of, stale_in, stale_on, IsAir, begun_of, stale_of, content_at, place_of}
pub use Rattle.source_machine.specs.Calls.{Setup, Call, event, events, framed_calls, framed_lays, laid_before, laid_with, lay_anchor, next_of, stream_calls, given, give, last_time_of, next_anchor_of}
pub use Rattle.source_machine.specs.Ciphers.{without_cipher}
pub use Rattle.source_machine.specs.Faults.{of_sender, give_fault, has_its_time, is_above, misfit_of, refused_unit, air_fault, answer_of, announce_fault}
pub use Rattle.source_machine.specs.Setups.{IsChecked}
pub use Rattle.source_machine.specs.State.Senders.{SenderStands, info_of, waiting_in, HasTime, PutStops}
pub use Rattle.source_machine.specs.State.Sources.{Source, Stream, StreamStands, StreamsAre, info_in, kept_of, StandsFor, StreamIs, last_laid, pdus_at, pdus_in}
pub use Rattle.source_machine.specs.State.Streams.{Grows, IsLaid, IsSource, Lays, LaysNext, Accepts, AllTell, sent_at, told_by, sent_of, LaysOne, Tells, IsReady, Advances, Performs, IsFit, limit_of, Keeps}
pub use Rattle.source_machine.specs.declared.laying.Laying.{Laying}
pub use Rattle.source_machine.specs.declared.sender.Sender.{Sender}
pub use Rattle.source_machine.specs.declared.sender.Sender.TheVariants.{Framed, Unframed}
pub use Rattle.source_machine.specs.declared.sent.Stale.{Stale}
pub use Rattle.isoal_framed.specs.State.Senders.{Above, NotPast}
pub use Rattle.isoal_unframed.proofs.Citable.{begun_within}
pub use Rattle.big_info.specs.declared.fault.GroupFault.TheVariants.{RangeIso, RangeSdu, RangePdu, Bn, NseNotMultiple, Irc, PhyNotSupported, FramedPduSmall, UnframedMultiple, UnframedBn, Horizon, SubInterval, SyncDelay, Encrypted}
