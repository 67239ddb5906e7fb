-- What the proofs of this crate use of `std` and of the crates below it, by one import.
pub use Rattle.std.proofs.Common.{◌≡◌, ℕ, zero, suc, ◌+◌, ◌<◌, ◌≤◌, ◌⊎◌, Bool, true, false, cond, eqb, ltb, List, [], ◌∷◌, ◌++◌, length, take, drop, Option, Some, None, Result, Ok, Err, refl, sym, ap, subst, ◌∙◌, append_assoc, arith, inl, inr, ◌↔◌, ◌-◌, bit_and, ◌||◌, ◌*◌, get_or, ◌/◌, ◌%◌, ◌&&◌}
pub use Rattle.std.proofs.lemmas.Bool.{ltb-false, cases_lt, ne_eqb, le-ltb, eqb-true, ltb-true, eqb-false, lt-ltb, leb-true, le-leb, eq-eqb}
pub use Rattle.std.proofs.lemmas.List.{length-append, append-nil, nil_from_length, at_drop_more}
pub use Rattle.std.proofs.lemmas.List.Concat.{flat_map-cons}
pub use Rattle.std.proofs.lemmas.Option.{same_Some}
pub use Rattle.std.proofs.lemmas.Result.{err_from_is_err_and}
pub use Rattle.std.proofs.lemmas.Slice.Eq.{bytes_eq-Decides}
pub use Rattle.std.specs.Int.{bit_at}
pub use Rattle.std.specs.List.{flat_map, AllByRecursion, list_any, find}
pub use Rattle.std.specs.Prelude.{IfErr, IsOk, IfOk, not, option_and_then, Any, OnOk, is_none, nat_le, unwrap_or, IsSomeAnd, ◌==◌, if◌then◌else◌}
pub use Rattle.std.specs.Result.{result_err}
pub use Rattle.std.specs.Str.{bytes_eq}
pub use Rattle.base_grammar.specs.Layout.{lc3, is_lc3}
pub use Rattle.base_grammar.specs.declared.effective.Effective.{Effective}
pub use Rattle.bcast_base.proofs.Citable.{octet_takes, octets_take, IsOctets-prefix, Takes-then, octets_again, err_is, ok_no, bind_err, needed_err, ok_is, bind_ok, needed_ok}
pub use Rattle.bcast_base.specs.Encoding.{IsOctets, octet, counted}
pub use Rattle.bcast_base.specs.Reading.{octet_in, octets_in, place_in, Takes}
pub use Rattle.bcast_base.specs.Tries.{◌>>=◌, Answers, Finds}
pub use Rattle.ltv_codec.specs.Layout.{AreLtvs}
pub use Rattle.ltv_codec.specs.Reading.{bad_of, ltvs_of}
pub use Rattle.ltv_codec.specs.declared.fault.LtvBad.{LtvBad}
pub use Rattle.pacs_records.specs.Faults.{Fields, to_codec, to_caps_length, to_caps, to_metadata_length, to_metadata, octets_of, next_length, MeetRows, IsNextList, Cut, IsFault, IsShort, IsNoList, IsTrailing}
pub use Rattle.pacs_records.specs.Layout.{greatest_value, encoded, value, Fits, PacIs, AreRecords}
pub use Rattle.pacs_records.specs.Match.{FitsStream, IsReason, Has, ShareBit, caps_in, IsToldReason, number, channel_count, HasFrequency, HasDuration, HasFrameOctets, HasChannels, HasFrames, IsPlaced, HasContext, Meets}
pub use Rattle.pacs_records.specs.Reading.{told, field_at, codec_in, checked, list_of, rest_of}
pub use Rattle.pacs_records.specs.Reasons.{reason_of, last_reason, not_taken, lc3_met, lc3_reasons, present, has, frequency_met, duration_met, frame_octets_met, channels_met, frames_met, location_met, context_met}
pub use Rattle.pacs_records.specs.declared.capability.Capability.{Capability}
pub use Rattle.pacs_records.specs.declared.fault.PacFault.{PacFault}
pub use Rattle.pacs_records.specs.declared.fault.PacFault.TheVariants.{TooLong, Short, Ltv, Trailing, Memory}
pub use Rattle.pacs_records.specs.declared.not_taken.NotTaken.{NotTaken}
pub use Rattle.pacs_records.specs.declared.not_taken.NotTaken.TheVariants.{Codec, Frequency, Duration, FrameOctets, Channels, FramesPerSdu, Location, Context}
pub use Rattle.pacs_records.specs.declared.record.PacRecord.{PacRecord}
pub use Rattle.ltv_codec.proofs.Citable.{read_bad, bad_read, reads, are_read}
