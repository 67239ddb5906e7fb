-- What the proofs of this crate use of `std` and of the crates below it, by one import.
pub use Rattle.std.proofs.Common.{ℕ, zero, suc, ◌≡◌, ◌+◌, ◌<◌, ◌≤◌, ◌^◌, Bool, true, false, List, [], ◌∷◌, ◌++◌, length, map, Option, Some, None, Result, Ok, Err, refl, sym, ap, ◌∙◌, subst, arith, drop, ◌≢◌, inl, inr, option_map, length-append, append_assoc, min, ◌-◌, take, ◌/◌, ◌%◌, ◌↔◌, get_or, slice_get}
pub use Rattle.std.proofs.lemmas.Bool.{cases_eq, eq-eqb, ne_eqb, ltb-false, le-ltb}
pub use Rattle.std.specs.List.{AllByRecursion, flat_map, range_with_len, filter}
pub use Rattle.std.specs.Prelude.{if◌then◌else◌, bytes_eq, ◌==◌, unwrap_or, slice_set, is_some, bit_or, nat_lt, ◌&&◌, not}
pub use Rattle.assistant_machine.specs.Links.{Act, AreFounded, AreReadBack, Language, delivered_of, made, notices_of, waiting_of, waits_of, reads_of, Agrees, view_of, if_its, value_of}
pub use Rattle.assistant_machine.specs.Views.{reading_of}
pub use Rattle.bass_operations.specs.Layout.{OpIs, group_of, WishFits}
pub use Rattle.bass_operations.specs.declared.operation.Operation.{Operation}
pub use Rattle.bass_operations.specs.declared.wishes.Wish.{Wish}
pub use Rattle.bcast_base.proofs.Citable.{IsOctets-rest, IsOctets-prefix}
pub use Rattle.bcast_base.specs.Encoding.{IsOctets}
pub use Rattle.bcast_base.specs.Layout.{laid, NoneReserved}
pub use Rattle.bcast_base.specs.Subgroups.{subgroup_fields, Fits, is_reserved, all_bits}
pub use Rattle.delegator_history.specs.Notices.{change, changes, handed_out}
pub use Rattle.delegator_history.specs.Snapshots.{Entry, Snapshot, is_on_group, Place, Wanted, idle, on_group, on_train}
pub use Rattle.delegator_history.specs.States.{snapshot_of, entry_in, Step, record_added, locations_set, contexts_set, mtu_set, sync_to_group, written, train_heard, train_lost, done_by}
pub use Rattle.delegator_history.specs.Trains.{Setup, TrainOutcome, ignored, heard, taken, Train, is_candidate, candidates, set_with, sets_with, first_candidates, are_none, base_in, big_info_in, big_sync_of, by_streams, by_group, by_info, by_big_info, by_endpoint, by_base, by_slot, by_broadcast_id, outcome_by, done_by_outcome, is_elsewhere, is_wanted}
pub use Rattle.delegator_history.specs.Values.{state_at, value_at, received, status_of, value, Status, encryption_of, groups_from}
pub use Rattle.delegator_history.specs.declared.notice.Notice.{Notice}
pub use Rattle.receive_state.specs.declared.state.ReceiveState.{ReceiveState}
pub use Rattle.sink_history.specs.Calls.{joined, Call, stepped, served, steps_of, asked, notified, read, forged, served_of, writes, writes_waiting, with_step}
pub use Rattle.sink_history.specs.Drains.{NoneNotifies, notified_and_read, IsAnew, IsApart, IsDrained, LeavesLink, drained, repeated, served_out, notified_out}
pub use Rattle.sink_history.specs.Links.{acts_of, is_forged, language, read_waits, state, Acts, Told, made_all, read_first, notified_first, view, delivered, notices_waiting, reads_waiting, forging_by}
pub use Rattle.sink_history.specs.Octets.{AreOctets, IsWritten}
pub use Rattle.std.proofs.lemmas.List.{length-set, append-nil}
pub use Rattle.bass_operations.specs.Reading.{op_of}
pub use Rattle.receive_state.specs.Reading.{state_of}
pub use Rattle.delegator_history.specs.Writes.{cause_of}
