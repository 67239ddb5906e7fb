-- What the proofs of this crate use of `std` and of the crates below it, by one import.
pub use Rattle.std.proofs.Common.{◌≡◌, ℕ, zero, suc, ◌+◌, ◌*◌, ◌/◌, ◌%◌, List, [], ◌∷◌, ◌++◌, length, take, drop, eqb, true, refl, arith, sym, ap, subst, inl, inr, length-append, length-take, length-drop, take-append-drop, Result, Ok, Err, ◌<◌, ◌≤◌, Bool, false, Option, Some, None, ◌∙◌, append_assoc, ◌^◌, set, get_or, ◌-◌, ◌⊎◌, ◌&&◌, cond, ltb, add-zero}
pub use Rattle.std.proofs.lemmas.Bool.{cases_Bool, eqb-true, eqb-false, eq-eqb, ne_eqb, and_parts, ltb-true, ltb-false, le-ltb, lt-ltb}
pub use Rattle.std.proofs.lemmas.List.{append-nil, length-set, drop-take, take_more_set, take_at, drop_at, drop-set-lt, take_all}
pub use Rattle.std.proofs.lemmas.Slice.{take-put_mid, drop-put_mid}
pub use Rattle.std.specs.Prelude.{IfOk, IfErr, MatchResult}
pub use Rattle.std.specs.Result.{result_err}
pub use Rattle.bcast_base.specs.Numbers.{Le, sum_from}
pub use Rattle.iso_pdu.specs.Control.{terminate, ControlIs, ControlFaultIs, terminate_of}
pub use Rattle.iso_pdu.specs.Encoding.{offset_octets, segment, segments, pdu, payload_of}
pub use Rattle.iso_pdu.specs.Faults.{FaultIs, StandsShort, StandsNoOffset, AtCut, InFramed}
pub use Rattle.iso_pdu.specs.Layout.{Part, start, more, framed, control, bit, SegmentIs, SegmentsAre, PduIs, HasAtMost, Content, end, fragment, IsSegmentHeader, PayloadIs, llid, octets_of, BodyIs}
pub use Rattle.iso_pdu.specs.Reading.{part_at, fault_at, before, unless, parts_of, parts_in, framed_of, content_at, IsPassed}
pub use Rattle.iso_pdu.specs.declared.control.Control.TheVariants.{Terminate, ChannelMap}
pub use Rattle.iso_pdu.specs.declared.fault.PduFault.{PduFault}
pub use Rattle.iso_pdu.specs.declared.fault.PduFault.TheVariants.{SegmentShort, Short, LengthDiffers, TooLong, SegmentNoOffset}
