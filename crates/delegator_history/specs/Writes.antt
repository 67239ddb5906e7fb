-- What a write to the Broadcast Audio Scan Control Point is answered, and what it does (Broadcast Audio Scan Service 1.0,
-- section 3.1.1). The order of the causes, and the slot and the Source_ID that a source gets, are this project's own.
use Rattle.std.specs.Prelude.{ℕ, zero, suc, ◌+◌, ◌==◌, ◌&&◌, ◌||◌, Bool, true, false, List, [], ◌∷◌, length, Option, Some, None, is_some, is_none, unwrap_or, nat_lt, Result, Ok, Err, if◌then◌else◌}
use Rattle.std.specs.List.{find, list_any}
use Rattle.std.specs.Str.{bytes_eq}
use Rattle.bass_operations.specs.declared.fault.OpFault.{OpFault}
use Rattle.bass_operations.specs.declared.fault.OpFault.TheVariants as faults
use Rattle.bass_operations.specs.declared.operation.AddSource.{AddSource}
use Rattle.bass_operations.specs.declared.operation.Operation.{Operation}
use Rattle.bass_operations.specs.declared.operation.Operation.TheVariants.{Add, Modify, Code, Remove}
use Rattle.bass_operations.specs.Reading.{op_of}
use Rattle.receive_state.specs.declared.state.ReceiveState.{ReceiveState}
use Rattle.delegator_history.specs.declared.replies.Cause.{Cause}
use Rattle.delegator_history.specs.declared.replies.Cause.TheVariants as causes
use Rattle.delegator_history.specs.declared.replies.Reply.{Reply}
use Rattle.delegator_history.specs.declared.replies.Reply.TheVariants.{Accepted, Refused}
use Rattle.delegator_history.specs.Snapshots.{Entry, Snapshot}
use Rattle.delegator_history.specs.Steps.{Done, nothing, added, modified, removed, after}
use Rattle.delegator_history.specs.Values.{state_at, value_at}

-- ---- slots

-- the first slot that meets the test, among slots of which the first is the one at this place
abbrev pub slot_where : (Option Entry → Bool) → ℕ → List (Option Entry) → Option ℕ
slot_where test place [] = None
slot_where test place (slot ∷ slots) = if test slot then Some place else slot_where test (place + 1) slots

abbrev pub has : (Entry → Bool) → Option Entry → Bool
has test None = false
has test (Some entry) = test entry

abbrev pub has_id : ℕ → Option Entry → Bool
has_id source_id slot = has (λ entry. entry.source.source_id == source_id) slot

abbrev pub has_source : ℕ → ℕ → List ℕ → Option Entry → Bool
has_source address_type sid broadcast_id slot = has (λ entry. (entry.source.address_type == address_type) && ((entry.source.sid == sid) && bytes_eq entry.source.broadcast_id broadcast_id)) slot

abbrev pub slot_with : ℕ → List (Option Entry) → Option ℕ
slot_with source_id slots = slot_where (has_id source_id) 0 slots

abbrev pub empty_slot : List (Option Entry) → Option ℕ
empty_slot slots = slot_where is_none 0 slots

-- the first Source_ID from this one on that no slot has; so many of those before the last are looked for
unfoldable pub unused_from : ℕ → ℕ → List (Option Entry) → ℕ
unused_from zero source_id slots = source_id
unused_from (suc others) source_id slots = if is_some (slot_with source_id slots) then unused_from others (source_id + 1) slots else source_id

-- the least unused Source_ID: with n slots at most n of the numbers from 0 to n are used
abbrev pub least_unused : List (Option Entry) → ℕ
least_unused slots = unused_from (length slots) 0 slots

-- ---- what an accepted operation does

abbrev pub entry_of : ℕ → AddSource → Entry
entry_of source_id add = record {
  source = record { source_id = source_id; address_type = add.address_type; address = add.address; sid = add.sid; broadcast_id = add.broadcast_id };
  wanted = record { pa_sync = add.pa_sync; wishes = add.wishes };
}

abbrev pub operated : List (Option Entry) → Operation → Done
operated slots (Add add) = added (unwrap_or (empty_slot slots) 0) (entry_of (least_unused slots) add)
operated slots (Modify modify) = modified (unwrap_or (slot_with modify.source_id slots) 0) (record { pa_sync = modify.pa_sync; wishes = modify.wishes })
operated slots (Remove source_id) = removed (unwrap_or (slot_with source_id slots) 0)
operated slots _ = nothing

-- ---- the causes

abbrev pub value_written : Snapshot → Done → List ℕ
value_written snapshot (added slot entry) = value_at (after (added slot entry) snapshot) slot
value_written snapshot (modified slot wanted) = value_at (after (modified slot wanted) snapshot) slot
value_written snapshot done = []

abbrev pub is_synced : Option ReceiveState → Bool
is_synced None = false
is_synced (Some state) = (state.pa_sync_state == 2) || list_any (λ group. nat_lt 0 group.bis_sync_state) state.groups

abbrev pub is_unknown : List (Option Entry) → ℕ → Bool
is_unknown slots source_id = is_none (slot_with source_id slots)

abbrev pub holds : Snapshot → Operation → Cause → Bool
holds snapshot (Modify modify) causes.SourceUnknown = is_unknown snapshot.slots modify.source_id
holds snapshot (Code source_id code) causes.SourceUnknown = is_unknown snapshot.slots source_id
holds snapshot (Remove source_id) causes.SourceUnknown = is_unknown snapshot.slots source_id
holds snapshot (Code source_id code) causes.NoDecrypt = true
holds snapshot (Add add) causes.Known = is_some (slot_where (has_source add.address_type add.sid add.broadcast_id) 0 snapshot.slots)
holds snapshot (Add add) causes.NoRoom = is_none (empty_slot snapshot.slots)
holds snapshot (Add add) causes.ValueTooLong = nat_lt 512 (length (value_written snapshot (operated snapshot.slots (Add add))))
holds snapshot (Modify modify) causes.ValueTooLong = nat_lt 512 (length (value_written snapshot (operated snapshot.slots (Modify modify))))
holds snapshot (Remove source_id) causes.StillSynced = is_synced (state_at snapshot (unwrap_or (slot_with source_id snapshot.slots) 0))
holds snapshot _ _ = false

abbrev pub operation_causes : List Cause
operation_causes = causes.SourceUnknown ∷ causes.NoDecrypt ∷ causes.Known ∷ causes.NoRoom ∷ causes.ValueTooLong ∷ causes.StillSynced ∷ []

abbrev pub cause_of_fault : OpFault → Option Cause
cause_of_fault faults.Empty = Some causes.Empty
cause_of_fault faults.Opcode = Some causes.Opcode
cause_of_fault faults.Length = Some causes.Length
cause_of_fault (faults.Rfu place) = Some causes.Rfu
cause_of_fault (faults.BisTwice bis) = Some causes.BisTwice
cause_of_fault faults.Memory = None

abbrev pub cause_read : Snapshot → Result Operation OpFault → Option Cause
cause_read snapshot (Err fault) = cause_of_fault fault
cause_read snapshot (Ok op) = find (holds snapshot op) operation_causes

abbrev pub cause_of : Snapshot → List ℕ → Option Cause
cause_of snapshot octets = cause_read snapshot (op_of octets)

-- ---- the answer

-- the error code: Opcode Not Supported, Invalid Source_ID, or Write Request Rejected
abbrev pub code_of : Cause → ℕ
code_of causes.Opcode = 0x80
code_of causes.NoDecrypt = 0x80
code_of causes.SourceUnknown = 0x81
code_of cause = 0xFC

abbrev pub reply_by : Option Cause → Reply
reply_by None = Accepted
reply_by (Some cause) = Refused (code_of cause) cause

abbrev pub reply_of : Snapshot → List ℕ → Reply
reply_of snapshot octets = reply_by (cause_of snapshot octets)

abbrev pub done_read : Snapshot → Result Operation OpFault → Option Cause → Done
done_read snapshot (Ok op) None = operated snapshot.slots op
done_read snapshot read cause = nothing

abbrev pub done_by_write : Snapshot → List ℕ → Done
done_by_write snapshot octets = done_read snapshot (op_of octets) (cause_of snapshot octets)
