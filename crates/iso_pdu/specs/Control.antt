-- BIG Control PDUs: Core 5.2, volume 6 part B, section 2.6.3. The payload is an opcode and its fields: of
-- BIG_CHANNEL_MAP_IND (0x00) ChM and Instant, of BIG_TERMINATE_IND (0x01) Reason and Instant.
use Rattle.std.specs.Prelude.{ℕ, zero, suc, ◌⊎◌, ◌≡◌, ◌≢◌, ◌+◌, ◌*◌, ◌/◌, ◌%◌, ◌==◌, List, [], ◌∷◌, ◌++◌, length, Result, Ok, Err, if◌then◌else◌}
use Rattle.bcast_base.specs.Numbers.{Le}
use Rattle.iso_pdu.specs.declared.control.Control.{Control}
use Rattle.iso_pdu.specs.declared.control.Control.TheVariants.{ChannelMap, Terminate}
use Rattle.iso_pdu.specs.declared.control.ControlFault.{ControlFault}
use Rattle.iso_pdu.specs.declared.control.ControlFault.TheVariants.{Opcode, ControlLength}

-- the layout of a control payload
abbrev pub ControlIs : Control → List ℕ → Type 0
ControlIs ChannelMap payload =
    (map : List ℕ) × (instant : List ℕ) × (length map ≡ 5) × (length instant ≡ 2) × (payload ≡ 0 ∷ (map ++ instant))
ControlIs (Terminate reason instant) payload =
    (time : List ℕ) × (length time ≡ 2) × Le instant time × (payload ≡ 1 ∷ reason ∷ time)

-- why a payload has no such layout: no opcode of these two, or not so many octets as its fields take
abbrev pub ControlFaultIs : ControlFault → List ℕ → Type 0
ControlFaultIs Opcode [] = Unit {0}
ControlFaultIs Opcode (opcode ∷ fields) = (opcode ≢ 0) × (opcode ≢ 1)
ControlFaultIs ControlLength [] = ⊥
ControlFaultIs ControlLength (opcode ∷ fields) =
    ((opcode ≡ 0) × (length fields ≢ 7)) ⊎ ((opcode ≡ 1) × (length fields ≢ 3))

abbrev pub terminate_of : List ℕ → Result Control ControlFault
terminate_of (reason ∷ low ∷ high ∷ []) = Ok (Terminate reason (low + 256 * high))
terminate_of _ = Err ControlLength

unfoldable pub control_of : List ℕ → Result Control ControlFault
control_of (zero ∷ fields) = if length fields == 7 then Ok ChannelMap else Err ControlLength
control_of (suc zero ∷ fields) = terminate_of fields
control_of _ = Err Opcode

-- the payload of BIG_TERMINATE_IND
abbrev pub terminate : ℕ → ℕ → List ℕ
terminate reason instant = 1 ∷ reason ∷ (instant % 256) ∷ (instant / 256) ∷ []

-- the number that stands for a fault in a transcript
abbrev pub control_number : ControlFault → ℕ
control_number Opcode = 1
control_number ControlLength = 2
