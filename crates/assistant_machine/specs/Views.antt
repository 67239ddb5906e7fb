-- What an assistant knows of the slots of a server (Broadcast Audio Scan Service 1.0, section 3.2; a notice is cut to MTU - 3
-- octets by Core 5.2, volume 3 part F, section 3.4.7.1, and a longer value has to be read). Lists of calls have the newest first.
use Rattle.std.specs.Prelude.{ℕ, ◌==◌, ◌&&◌, not, Bool, true, false, List, [], ◌∷◌, Option, Some, None, Result, unwrap_or}
use Rattle.std.specs.Result.{result_ok}
use Rattle.assistant_machine.specs.Cuts.{asks}
use Rattle.receive_state.specs.Reading.{state_of}
use Rattle.receive_state.specs.declared.fault.StateFault.{StateFault}
use Rattle.receive_state.specs.declared.state.ReceiveState.{ReceiveState}
use Rattle.assistant_machine.specs.Calls.{Call, notified, all_asked, asked, read, mtu_of}

abbrev pub told_of : Result (Option ReceiveState) StateFault → Option (Option ReceiveState)
told_of result = result_ok result

abbrev pub reading_of : List ℕ → Option (Option ReceiveState)
reading_of value = told_of (state_of value)

abbrev pub if_slot : {A : Type 0} → Bool → Option A → Option A
if_slot true given = given
if_slot false given = None

-- what a call after these gives as the view of a slot
abbrev pub view_given : ℕ → Call → List Call → Option (Option ReceiveState)
view_given slot (notified at value) earlier = if_slot ((at == slot) && not (asks (mtu_of earlier) value)) (reading_of value)
view_given slot (read at value) earlier = if_slot (at == slot) (reading_of value)
view_given slot _ earlier = None

-- the view of a slot: the last value that was told or read of it; before any it is empty
abbrev pub view_of : ℕ → List Call → Option ReceiveState
view_of slot [] = None
view_of slot (call ∷ earlier) = unwrap_or (view_given slot call earlier) (view_of slot earlier)

-- what a call after these says of whether a read of a slot is wanted
abbrev pub want_given : ℕ → Call → List Call → Option Bool
want_given slot (notified at value) earlier = if_slot ((at == slot) && asks (mtu_of earlier) value) (Some true)
want_given slot all_asked earlier = Some true
want_given slot (asked at) earlier = if_slot (at == slot) (Some false)
want_given slot _ earlier = None

-- a read of a slot waits: a value that asks came for it, or all were asked for, and it was not read since
abbrev pub waits_of : ℕ → List Call → Bool
waits_of slot [] = false
waits_of slot (call ∷ earlier) = unwrap_or (want_given slot call earlier) (waits_of slot earlier)
