-- What the proofs of this crate use of `std` and of the crates below it, by one import.
pub use Rattle.std.proofs.Common.{ℕ, ◌≡◌, ◌≢◌, ◌+◌, Bool, true, false, List, [], ◌∷◌, ◌++◌, map, Option, Some, None, refl, sym, ap, ◌∙◌, arith, cond, ltb, length, Result, Ok, Err, subst, ◌-◌, ◌<◌, ◌≤◌, ◌^◌, suc, zero, drop, get_or, eqb, take, ◌*◌, min, option_map, set, ◌⊎◌, ◌/◌}
pub use Rattle.std.proofs.lemmas.Bool.{eqb-true, eq-eqb, ne_eqb, leb-true, eqb-false}
pub use Rattle.std.proofs.lemmas.List.{append-nil, drop-append-le, drop_min, drop_at, length-append, length-take, take-append-drop}
pub use Rattle.std.proofs.lemmas.Nat.{pow_pos, le_or_l, le_or_r, or_lt, pow_below}
pub use Rattle.std.proofs.lemmas.Option.{none-some, same_Some, some_pair_parts}
pub use Rattle.std.specs.List.{range_with_len, flat_map, AllByRecursion, concat, Any, filter, find}
pub use Rattle.std.specs.Option.{option_or}
pub use Rattle.std.specs.Prelude.{◌==◌, unwrap_or, if◌then◌else◌, bit_or, ◌&&◌, nat_le, is_none, not, is_some}
pub use Rattle.announcement_train.specs.declared.train.Train.{Train}
pub use Rattle.base_grammar.specs.Layout.{Endpoint, BaseIs, endpoint, subgroup, bis_of, stands_in, encoding}
pub use Rattle.base_grammar.specs.declared.fault.BaseFault.{BaseFault}
pub use Rattle.bass_operations.specs.declared.wishes.Wish.{Wish}
pub use Rattle.bcast_base.proofs.Citable.{number_again, bind_ok, needed_ok, ok_is, IsOctets-prefix, IsOctets-rest, number-length, number_once}
pub use Rattle.big_info.specs.Layout.{Encodes, CipherIs, number_of}
pub use Rattle.big_info.specs.declared.big_fault.BigFault.{BigFault}
pub use Rattle.big_info.specs.declared.info.BigInfo.{BigInfo}
pub use Rattle.big_info.specs.declared.info.Cipher.{Cipher}
pub use Rattle.delegator_history.specs.Announced.{heard_as, IsOnGroup, numbers_alone}
pub use Rattle.delegator_history.specs.LastGiven.{last_given, IsLastGiven}
pub use Rattle.delegator_history.specs.Snapshots.{Entry, Place, Snapshot, slot_of, is_on, entry_at, idle, on_train, on_group, is_on_group, Wanted, is_slot}
pub use Rattle.delegator_history.specs.States.{Answered, Step, done_by, snapshot_in, snapshot_of, place_in, encrypted_in, encrypted_where, taken_in, source_by, wanted_by, entry_from, unwanted, source_in, wanted_in, entry_in, records_in, capability_in, encryption_by}
pub use Rattle.delegator_history.specs.Steps.{Done, nothing, added, modified, removed, tuned, followed, joined, lost, left, recorded, located, opened, place_given, encryption_given, taken_given, placed, wishes_at, wanting, slots_after, capability_after, after, same_streams, place_left, place_after, encrypted_on, taken_on}
pub use Rattle.delegator_history.specs.Trains.{Setup, are_none, set_with, sets_with, first_candidates, base_in, big_info_in, big_sync_in, candidates, is_candidate, TrainOutcome, heard, ignored, taken, outcome_by, by_base, by_big_info, by_broadcast_id, by_endpoint, by_group, by_info, by_slot, by_streams, is_elsewhere, is_wanted, big_sync_of, found_in, offset_of}
pub use Rattle.pacs_records.specs.declared.capability.Capability.{Capability}
pub use Rattle.sync_reference.specs.BigSync.{BigSync}
pub use Rattle.delegator_history.specs.Values.{value_at, status_of, groups_from, received, HasBit}
