-- What the proofs of this crate use of `std` and of the crates below it, by one import.
pub use Rattle.std.proofs.Common.{ℕ, zero, suc, length, get_or, ◌≡◌, Bool, true, false, List, ◌∷◌, Option, Some, None, option_map, refl, sym, ◌∙◌, ap, subst, Result, Ok, Err, option_copied, [], unwrap_or, ◌<◌, inl, inr, arith}
pub use Rattle.std.specs.Prelude.{not, is_some, if◌then◌else◌, ◌&&◌, IsSome, ◌==◌, IsOk}
pub use Rattle.bass_operations.specs.Reading.{op_of}
pub use Rattle.bass_operations.specs.declared.fault.OpFault.{OpFault}
pub use Rattle.bass_operations.specs.declared.operation.Operation.{Operation}
pub use Rattle.delegator_control.proofs.Wanting.{on_any_err}
pub use Rattle.delegator_control.specs.Following.{is_followed, has_base}
pub use Rattle.delegator_control.specs.Groups.{has_group}
pub use Rattle.delegator_control.specs.State.Machines.{Machine, moved, machine}
pub use Rattle.delegator_history.specs.Snapshots.{Place, idle, on_train, on_group, Snapshot, entry_at, is_on_group, slot_of, is_on}
pub use Rattle.delegator_history.specs.States.{train_heard, snapshot_of, Step, sync_to_group, written, train_lost, control_heard, record_added, locations_set, contexts_set, mtu_set, notified, done_by}
pub use Rattle.delegator_history.specs.Steps.{after, wishes_at, nothing, Done, capability_after, encryption_given, place_given, place_left, placed, same_streams, slots_after, taken_given}
pub use Rattle.delegator_history.specs.Trains.{TrainOutcome, Setup, Train, ignored, heard, taken, outcome_by, done_by_outcome, big_sync_in, base_in, by_base, by_broadcast_id, by_slot, is_elsewhere, is_wanted}
pub use Rattle.delegator_machine.specs.Calls.{Call, control, steps_of, hear, tick, heard_where, heard_first, heard_calls}
pub use Rattle.delegator_machine.specs.Groups.{group_calls, by_numbers, big_sync_given, with_leave, with_step, last_big_sync}
pub use Rattle.delegator_machine.specs.State.Halves.{Halves, StandsFor}
pub use Rattle.group_sink.specs.State.Sinks.{OnGroup}
pub use Rattle.group_sink.specs.State.Steps.{fresh_on}
pub use Rattle.sync_reference.specs.BigSync.{BigSync}
pub use Rattle.delegator_history.proofs.Citable.{snapshot_goes_on, bits_on}
pub use Rattle.group_sink.specs.Calls.{place, leave}
