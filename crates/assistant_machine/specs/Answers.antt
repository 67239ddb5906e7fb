-- How an assistant answers a notice and the value of a read (Broadcast Audio Scan Service 1.0, section 3.2; Core 5.2, volume 3
-- part F, section 3.4.7.1): the first of these that holds. It has no such slot; the value may have been cut, so a read waits;
-- the octets are no value; else they are the view of the slot.
use Rattle.std.specs.Prelude.{ℕ, nat_le, List, Option, Result, Ok, Err, if◌then◌else◌, ◌≡◌}
use Rattle.receive_state.specs.Reading.{state_of}
use Rattle.receive_state.specs.declared.fault.StateFault.{StateFault}
use Rattle.receive_state.specs.declared.state.ReceiveState.{ReceiveState}
use Rattle.assistant_machine.specs.Cuts.{asks}
use Rattle.assistant_machine.specs.declared.fault.NoticeFault.{NoticeFault}
use Rattle.assistant_machine.specs.declared.fault.NoticeFault.TheVariants.{NoSuchSlot, BadNotice, Memory}
use Rattle.assistant_machine.specs.declared.fault.NoticeTaken.{NoticeTaken}
use Rattle.assistant_machine.specs.declared.fault.NoticeTaken.TheVariants.{ReadWaits, View}

abbrev pub by_reading : Result (Option ReceiveState) StateFault → Result NoticeTaken NoticeFault
by_reading (Ok state) = Ok View
by_reading (Err fault) = Err (BadNotice fault)

abbrev pub answer_of : ℕ → Option ℕ → ℕ → List ℕ → Result NoticeTaken NoticeFault
answer_of slots mtu slot value =
    if nat_le slots slot then Err NoSuchSlot else (if asks mtu value then Ok ReadWaits else by_reading (state_of value))

-- the fault is the answer; memory is wanted only where the octets are a value to keep
abbrev pub IsCause : NoticeFault → Result NoticeTaken NoticeFault → Type 0
IsCause Memory answer = answer ≡ Ok View
IsCause NoSuchSlot answer = answer ≡ Err NoSuchSlot
IsCause (BadNotice fault) answer = answer ≡ Err (BadNotice fault)
