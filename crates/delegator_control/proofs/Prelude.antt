-- What the proofs of this crate use of `std` and of the crates below it, by one import.
pub use Rattle.std.proofs.Common.{ℕ, ◌≡◌, ◌<◌, Bool, true, false, List, length, Option, Some, None, Result, Ok, refl, ap, arith, ◌∙◌, ◌≢◌, [], ◌∷◌, drop, get_or, sym, zero, suc, ◌+◌, map, replicate, ◌++◌, subst, slice_get, append_assoc, set, ◌-◌, ◌≤◌}
pub use Rattle.std.proofs.lemmas.Bool.{eqb-true, ne_eqb, lt-ltb, cond-true, cond-false, eq-eqb, not-false}
pub use Rattle.std.proofs.lemmas.List.{append-nil, get_or_read_under, append_cancel_left, get_or-set_same, get_or-set_other, get_or_default, length-replicate, length-append}
pub use Rattle.std.proofs.lemmas.Option.{same_Some}
pub use Rattle.std.proofs.lemmas.Result.{on_ok_weaker, on_err_weaker, err_from_is_err_and}
pub use Rattle.std.specs.List.{range_with_len, flat_map, list_any, AllByRecursion}
pub use Rattle.std.specs.Prelude.{◌==◌, nat_lt, is_none, if◌then◌else◌, OnErr, not, option_map, ◌&&◌, is_some, IfSome, ◌||◌, IsOk, unwrap_or, vec_len, is_ok, IfOk}
pub use Rattle.base_grammar.specs.Layout.{Endpoint}
pub use Rattle.base_grammar.specs.Reading.{base_of}
pub use Rattle.base_grammar.specs.declared.fault.BaseFault.{BaseFault}
pub use Rattle.bass_operations.specs.Reading.{op_of}
pub use Rattle.bass_operations.specs.declared.fault.OpFault.{OpFault}
pub use Rattle.bass_operations.specs.declared.operation.Operation.{Operation}
pub use Rattle.bass_operations.specs.declared.operation.Operation.TheVariants.{ScanStopped, ScanStarted, Add, Modify, Code, Remove}
pub use Rattle.bass_operations.specs.declared.wishes.Wish.{Wish}
pub use Rattle.bcast_base.specs.Layout.{laid, Field}
pub use Rattle.bcast_base.specs.Subgroups.{subgroup, Subgroup, subgroup_fields}
pub use Rattle.bcast_base.specs.Tries.{Finds}
pub use Rattle.big_info.specs.Reading.{info_of}
pub use Rattle.big_info.specs.Rows.{first_fault}
pub use Rattle.big_info.specs.declared.big_fault.BigFault.{BigFault}
pub use Rattle.big_info.specs.declared.fault.GroupFault.{GroupFault}
pub use Rattle.big_info.specs.declared.info.BigInfo.{BigInfo}
pub use Rattle.delegator_choices.proofs.Citable.{drop_get, held_slot, found}
pub use Rattle.delegator_control.specs.Serving.{Replies, Serves, has_value, wants_memory}
pub use Rattle.delegator_control.specs.State.Brings.{train_of}
pub use Rattle.delegator_control.specs.State.Machines.{Machine, moved, StandsFor, machine, step_on}
pub use Rattle.delegator_control.specs.State.Places.{place_by}
pub use Rattle.delegator_control.specs.State.Statuses.{groups_laid, status_at, status_seen}
pub use Rattle.delegator_control.specs.State.Written.{written_value}
pub use Rattle.delegator_control.specs.declared.place.Move.{Move}
pub use Rattle.delegator_control.specs.declared.place.Move.TheVariants.{Stay, Off, OffGroup}
pub use Rattle.delegator_history.proofs.Citable.{none_change, one_changes, snapshot_goes_on, waiting_goes_on, none_set}
pub use Rattle.delegator_history.specs.Controls.{control_heard, done_heard, done_by_control}
pub use Rattle.delegator_history.specs.Notices.{change, changes, is_told, mtu_by, mtu_in, waiting}
pub use Rattle.delegator_history.specs.Snapshots.{Snapshot, Entry, idle, Place, on_train, on_group, is_on, is_on_group, entry_at, slot_of, Wanted, is_slot}
pub use Rattle.delegator_history.specs.States.{notified, Step, mtu_set, done_by, entry_in, snapshot_of, record_added, sync_to_group, written, train_heard, train_lost, locations_set, contexts_set}
pub use Rattle.delegator_history.specs.Steps.{Done, nothing, after, same_streams, modified, placed, place_given, left, added, removed, place_wanted, wanting, wishes_at, place_left, recorded, followed, joined, located, opened}
pub use Rattle.delegator_history.specs.Trains.{Setup, Train, TrainOutcome, are_none, big_info_in, by_base, by_big_info, by_endpoint, by_group, by_info, first_candidates, taken, base_in, done_by_outcome, ignored, heard, is_elsewhere, is_wanted, big_sync_of, set_with, sets_with, by_broadcast_id, by_slot, by_streams, outcome_by, offset_of}
pub use Rattle.delegator_history.specs.Values.{Status, received, value, value_at, status_of, groups_from, state_at}
pub use Rattle.delegator_history.specs.Writes.{cause_of_fault, cause_read, done_read, is_synced, slot_where, slot_with, empty_slot, entry_of, reply_by, done_by_write, has_source, least_unused, operated, value_written}
pub use Rattle.delegator_history.specs.declared.notice.Notice.{Notice}
pub use Rattle.delegator_history.specs.declared.replies.Cause.{Cause}
pub use Rattle.delegator_history.specs.declared.replies.Reply.{Reply}
pub use Rattle.delegator_history.specs.declared.replies.Reply.TheVariants.{Accepted}
pub use Rattle.pacs_records.specs.declared.capability.Capability.{Capability}
pub use Rattle.pacs_records.specs.declared.record.PacRecord.{PacRecord}
pub use Rattle.receive_state.specs.Layout.{encoding, fields_of, prefix_fields, group_of}
pub use Rattle.std.proofs.lemmas.Slice.Eq.{bytes_eq-Decides, strip_suffix_is}
pub use Rattle.std.specs.Option.{MatchOption, option_or}
