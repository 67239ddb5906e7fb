-- What a PDU is answered that is heard as a control PDU (Core 5.2, volume 6 part B, section 2.6.3), and what it does.
use Rattle.std.specs.Prelude.{ℕ, List, Result, Ok, Err}
use Rattle.iso_pdu.specs.declared.control.Control.{Control}
use Rattle.iso_pdu.specs.declared.control.Control.TheVariants.{ChannelMap, Terminate}
use Rattle.iso_pdu.specs.declared.control.ControlFault.{ControlFault}
use Rattle.iso_pdu.specs.declared.control.ControlFault.TheVariants as faults
use Rattle.iso_pdu.specs.declared.fault.PduFault.{PduFault}
use Rattle.iso_pdu.specs.Control.{control_of}
use Rattle.iso_pdu.specs.Layout.{Content, control}
use Rattle.iso_pdu.specs.Reading.{read_of}
use Rattle.delegator_history.specs.declared.train_heard.ControlHeard.{ControlHeard}
use Rattle.delegator_history.specs.declared.train_heard.ControlHeard.TheVariants.{NotOnGroup, Malformed, NotControl, UnknownOpcode, ControlLength, MapIgnored, Left}
use Rattle.delegator_history.specs.Snapshots.{Place, on_group}
use Rattle.delegator_history.specs.Steps.{Done, nothing, left}

abbrev pub told_by : Result Control ControlFault → ControlHeard
told_by (Err faults.Opcode) = UnknownOpcode
told_by (Err faults.ControlLength) = ControlLength
told_by (Ok ChannelMap) = MapIgnored
told_by (Ok (Terminate reason instant)) = Left

abbrev pub heard_in : Result Content PduFault → ControlHeard
heard_in (Err fault) = Malformed fault
heard_in (Ok (control payload)) = told_by (control_of payload)
heard_in (Ok content) = NotControl

-- the first row that holds; a payload has at most 251 octets
abbrev pub control_heard : Place → List ℕ → ControlHeard
control_heard (on_group slot) octets = heard_in (read_of 251 octets)
control_heard place octets = NotOnGroup

abbrev pub done_heard : ControlHeard → Done
done_heard Left = left
done_heard answer = nothing

abbrev pub done_by_control : Place → List ℕ → Done
done_by_control place octets = done_heard (control_heard place octets)
