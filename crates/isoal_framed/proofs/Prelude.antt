-- What the proofs of this crate use of `std` and of the crates below it, by one import.
pub use Rattle.std.proofs.Common.{ℕ, zero, suc, ◌≡◌, ◌+◌, ◌-◌, ◌*◌, ◌/◌, ◌<◌, ◌≤◌, inl, inr, true, false, Bool, List, [], ◌∷◌, ◌++◌, length, drop, Option, Some, None, refl, sym, ap, ◌∙◌, subst, arith, append_assoc, length-drop, map, take, replicate, get_or, ◌⊎◌, length-append, cond, eqb, ◌&&◌, Result, Ok, vec_len, is_some, leb, Err, ltb, lit<, lit≤}
pub use Rattle.std.proofs.Math.Nat.{add-mul, div-lt_iff_lt-mul, le-div_iff_mul-le}
pub use Rattle.std.proofs.lemmas.Bool.{cond-true, cond-false, true≢false, false≢true, cases_Bool, leb-true, leb-false, le-leb, lt-leb, eqb-true, eq-eqb, ne_eqb, cases_order, lt-ltb, le-ltb, and_right, and_from, and_left, cases_eq}
pub use Rattle.std.proofs.lemmas.List.{length-map, drop-append-le, drop-drop, append-nil, length-take, map-append, drop-map, length-replicate, replicate-append-replicate, take-append-le, take-append-drop, take_all, map-set, drop_more, drop-set-lt, get_or-drop, get_or-set_same, length-set, take-map, take-set, take_more, get_or-map}
pub use Rattle.std.proofs.lemmas.Option.{none-some, slice_get_past, slice_get_within, same_Some, get_or_from_slice_get, slice_get_cases}
pub use Rattle.std.proofs.lemmas.Result.{on_ok_weaker, IfOk-weaker}
pub use Rattle.std.specs.List.{flat_map, range_with_len, slice_get, All}
pub use Rattle.big_info.specs.declared.info.BigInfo.{BigInfo}
pub use Rattle.iso_pdu.specs.Encoding.{pdu}
pub use Rattle.iso_pdu.specs.Layout.{framed, Part, more, start}
pub use Rattle.iso_pdu.specs.State.Packing.{room_in}
pub use Rattle.isoal_base.proofs.Citable.{cases_option, heard_first, map_same, map_append, heard_same, entry_outside, map_part, stands_new, stands_hear, stands_close}
pub use Rattle.isoal_base.specs.Air.{Air, Laid, laid_in}
pub use Rattle.isoal_base.specs.Hearing.{read_as}
pub use Rattle.isoal_base.specs.Stays.{Stay, opened, heard, hear, close, window_of}
pub use Rattle.isoal_framed.specs.Air.{pdus_ended, AllCome, IsEvent, IsAirOf, begun_by, part_of, IsFramedAir, open_parts, pdus_of}
pub use Rattle.isoal_framed.specs.Calls.{Call, Timed, accept, lay, accepted, Laying, layings_of}
pub use Rattle.isoal_framed.specs.Greedy.{act_for, act_of, sends, unless_stale, unless_early}
pub use Rattle.isoal_framed.specs.Histories.{heard_in, event_tokens, closed_tokens, decided, gained, undecided_in}
pub use Rattle.isoal_framed.specs.Places.{Act, carries, leaves_out, ends, Place, place_of, Comes, done, sent, room, least_room, IsSegment, overhead, HasTurn}
pub use Rattle.isoal_framed.specs.Sends.{AreOf, IsTimed, EventsAre, Sends, IsOf}
pub use Rattle.isoal_framed.specs.State.Buffers.{run_in}
pub use Rattle.isoal_framed.specs.State.Joining.{hands, hands_at, hands_joined, run_at, run_after, run_joined}
pub use Rattle.isoal_framed.specs.State.Packings.{Placed, Carried, Changes}
pub use Rattle.isoal_framed.specs.State.Places.{entry_in, kept_of}
pub use Rattle.isoal_framed.specs.State.Senders.{Going, IsPartly, StandsFor, Sender, IsSender, with_unit}
pub use Rattle.isoal_framed.specs.State.Streams.{stay_of}
pub use Rattle.isoal_framed.specs.State.Windows.{HandsOn, CausedOn, Window, Stands, after_hear, after_close, tokens_in, owed}
pub use Rattle.isoal_framed.specs.Struck.{Fit, Sent, carried, parts_at, InOrder, entry_of, is_last, octets_in, FromSource, is_heard, closed_end, struck, part_with, first_missing, entry_by}
pub use Rattle.isoal_framed.specs.Tokens.{tokens_of, segmented, Token, missing, token_of, starts, goes_on, time_of}
pub use Rattle.isoal_framed.specs.Units.{Fate, whole, broken, fate_after, Run, undecided_run, Piece, undecided, NoneComplete, joined, IsWhole, IsTooLong, IsCut, FateIs, fate_of, run_on, is_followed, handed_of, run_of, units}
pub use Rattle.unit_outlets.specs.Handed.{Handed, Counts, valid, lost, HandsOver}
pub use Rattle.unit_outlets.specs.declared.fault.TakerFault.{TakerFault}
pub use Rattle.std.proofs.lemmas.Grind.{drop_more_same, flat_map-append}
pub use Rattle.std.proofs.lemmas.List.Elements.{All-push, All-set}
pub use Rattle.isoal_framed.specs.State.Entries.{IsPduOrNothing}
pub use Rattle.std.proofs.Math.Seq.{take-append-add, take-add, drop-append_seam}
