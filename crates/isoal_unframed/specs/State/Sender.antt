-- The state of a sender of an unframed stream, its steps, and the calls that it stands for.
use Rattle.std.specs.Prelude.{ℕ, suc, ◌≡◌, ◌≤◌, ◌<◌, Option, List, [], ◌∷◌, ◌++◌, length, drop, map}
use Rattle.std.specs.List.{flat_map, range_with_len, slice_get}
use Rattle.big_info.specs.declared.info.BigInfo.{BigInfo}
use Rattle.big_info.specs.Schedule.{per_event_of, per_unit_of}
use Rattle.iso_pdu.specs.Encoding.{pdu}
use Rattle.isoal_unframed.specs.Slot.{laid}
use Rattle.isoal_base.specs.declared.laid.PutFault.{PutFault}
use Rattle.isoal_base.specs.declared.laid.PutFault.TheVariants.{TooLong, TimeOrder, Backlog, Memory}
use Rattle.isoal_unframed.specs.Calls.{Call, accepted, begun}

-- the group, and the units that wait for a slot, in the order of acceptance
pub record Sender : Type 0 where
  pub info : BigInfo
  pub waiting : List (List ℕ)

pub record IsSender (info : BigInfo) (waiting : List (List ℕ)) : Type 0 where
  pub unframed : info.framing ≡ 0
  pub few : length waiting ≤ 16

-- a unit is taken
pub record MayWait (sender : Sender) (unit : List ℕ) : Type 0 where
  pub fits : length unit ≤ sender.info.max_sdu
  pub room : length sender.waiting < 16

-- when a unit is refused: no two of these hold together, and none where it may wait but want of memory
abbrev pub PutFaultIs : Sender → List ℕ → PutFault → Type 0
PutFaultIs sender unit TooLong = sender.info.max_sdu < length unit
PutFaultIs sender unit TimeOrder = ⊥
PutFaultIs sender unit Backlog = (length unit ≤ sender.info.max_sdu) × (length sender.waiting ≡ 16)
PutFaultIs sender unit Memory = MayWait sender unit

abbrev pub with_unit : Sender → List ℕ → Sender
with_unit sender unit = record { info = sender.info; waiting = sender.waiting ++ unit ∷ [] }

-- the first `count` PDUs of a slot
abbrev pub slot_pdus : ℕ → ℕ → Option (List ℕ) → List (List ℕ)
slot_pdus max_pdu count slot = map (λ r. pdu (laid max_pdu slot r)) (range_with_len 0 count)

-- the next PDU of a slot of which `left` isn't laid yet, and what is left behind it
pub record Begins (max_pdu : ℕ) (left : Option (List ℕ)) (next : List ℕ) (rest : Option (List ℕ)) : Type 0 where
  pub goes : (count : ℕ) → slot_pdus max_pdu (suc count) left ≡ next ∷ slot_pdus max_pdu count rest

-- the PDUs of the slots of an event, of which each takes the next unit that waits
abbrev pub event_pdus : BigInfo → List (List ℕ) → List (List ℕ)
event_pdus info waiting =
    flat_map (λ slot. slot_pdus info.max_pdu (per_unit_of info) (slice_get waiting slot)) (range_with_len 0 (per_event_of info))

abbrev pub after_event : Sender → Sender
after_event sender = record { info = sender.info; waiting = drop (per_event_of sender.info) sender.waiting }

-- what waits are the units accepted that have no slot yet
pub record StandsFor (info : BigInfo) (calls : List Call) (sender : Sender) : Type 0 where
  pub group : sender.info ≡ info
  pub waiting : sender.waiting ≡ drop (begun info calls) (accepted calls)
