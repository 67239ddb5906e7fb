-- What the proofs of this crate use of `std` and of the crates below it, by one import.
pub use Rattle.std.proofs.Common.{inl, inr, ℕ, ◌≡◌, ◌≤◌, true, leb, List, [], ◌∷◌, ◌++◌, length, map, Option, Some, None, refl, sym, ap, ◌∙◌, subst, arith, ◌+◌, ◌*◌, ◌-◌, min, zero, suc, drop, ◌<◌, cond, take, set, replicate, get_or, is_some, ◌%◌, ltb, ◌/◌, false, vec_len, option_copied, ◌⊎◌, Result, Err, Bool, not, eqb, max, slice_set, ◌^◌}
pub use Rattle.std.proofs.Math.Nat.{add-mul, mod-eq_of_lt, mod_self, mod-lt, div-eq_of_lt, suc-mod, add-div_right, add-mod_right, add-div_left, add-mod_left, div_self, mul-add-div_right, mul-add-mod_self_right}
pub use Rattle.std.proofs.lemmas.Bool.{cond-true, leb-true, le-leb, cases_Bool, cond-false, cases_lt, false≢true, lt-ltb, le-ltb, cases_order, eq-eqb, ne_eqb, ltb-true, ltb-false, true≢false, cases_eq}
pub use Rattle.std.proofs.lemmas.Grind.{div_ceil_times}
pub use Rattle.std.proofs.lemmas.List.{append_assoc, drop-append-le, drop-drop, length-append, length-drop, take-take, take_at, drop_at, take-append-le, length-take-le, length-replicate, get_or-take, get_or-drop, append-nil, take-append-drop, drop_min, drop_more, drop-take, length-take, drop_all, drop-set-add, drop-set-lt, take-set-le, set-append_left, set-append_right, get_or_append_left, get_or-append_right, take_more, take_all, drop-replicate, take-replicate, replicate-append-replicate, with_items_is, get_or_default}
pub use Rattle.std.proofs.lemmas.List.FromFn.{get_or-map-range_with_len, length-map-range_with_len, sum_by-map-range_with_len_more}
pub use Rattle.std.proofs.lemmas.Nat.{mul-le, div-mul-add, mod-mul-add, div_below, le-div, row_fits, div-add-mod', mod_below, mul-add-lt}
pub use Rattle.std.proofs.lemmas.Option.{none-some, cond_some, same_Some, slice_get-get_or, slice_get_within}
pub use Rattle.std.specs.Int.{div_ceil}
pub use Rattle.std.specs.List.{copy_within, range_with_len, sum, flat_map, slice_get, concat, All, AllZip}
pub use Rattle.std.specs.Vec.{with_items}
pub use Rattle.big_info.specs.Bounds.{Bounds}
pub use Rattle.big_info.specs.Schedule.{per_event_of, per_unit_of, horizon_of}
pub use Rattle.big_info.specs.declared.info.BigInfo.{BigInfo}
pub use Rattle.iso_pdu.specs.Encoding.{pdu, payload_of}
pub use Rattle.iso_pdu.specs.Layout.{Content, end, fragment, framed, control}
pub use Rattle.isoal_base.specs.Air.{Laid, event_at, pdu_at, laid_in}
pub use Rattle.isoal_base.specs.Hearing.{read_as, placing}
pub use Rattle.isoal_base.specs.Stays.{Stay, hear, close, opened, window_of, FirstHeard}
pub use Rattle.isoal_unframed.specs.Air.{unframed_air, laid_u, next_event}
pub use Rattle.isoal_unframed.specs.Calls.{Call, accept, lay, accepted, begun, lays, events}
pub use Rattle.isoal_unframed.specs.Histories.{heard_in, unit_at, units_of, numbers_of, handed}
pub use Rattle.isoal_unframed.specs.Slot.{fragments_of, laid_unit, laid}
pub use Rattle.isoal_unframed.specs.State.Cells.{kept_in, held_cells, turned, count_of, Within, entry_in, part_of}
pub use Rattle.isoal_unframed.specs.State.Rings.{kept_of, octets_at}
pub use Rattle.isoal_unframed.specs.State.Sender.{Sender, StandsFor, event_pdus, slot_pdus, IsSender, after_event, with_unit, Begins}
pub use Rattle.isoal_unframed.specs.State.Streams.{stay_of, place_of, place_at}
pub use Rattle.isoal_unframed.specs.State.Windows.{time_of, handed_of, owed_at, owed_of, Window, Stands, after_hear, after_close, owed, held_in_event, slot_in, held_at}
pub use Rattle.isoal_unframed.specs.Units.{unit_after, unit_of, held_in, unframed, IsUnit, IsPrefix, IsHeld, count_in}
pub use Rattle.isoal_unframed.specs.declared.cell.Cell.TheVariants.{Empty, Fragment, End}
pub use Rattle.unit_outlets.specs.Handed.{HandsOver, Handed}
pub use Rattle.isoal_base.proofs.Citable.{cases_option, map_append}
pub use Rattle.std.specs.Option.{IfSome, option_map, option_and_then}
pub use Rattle.isoal_unframed.specs.declared.cell.Cell.{Cell}
pub use Rattle.isoal_unframed.specs.declared.ring.Ring.{Ring}
pub use Rattle.std.proofs.lemmas.Result.{on_ok_weaker, IfOk-weaker}
