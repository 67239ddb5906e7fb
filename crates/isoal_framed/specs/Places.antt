-- The places of framed PDUs (Core 5.2, volume 6 part G, section 2.2; that PDUs are filled greedily is this project's
-- own). At a place comes a segment of the due unit, or that unit is left out as stale, or the PDU ends. What came before
-- is a list of acts, the newest first, through all PDUs and events.
use Rattle.std.specs.Prelude.{ℕ, ◌+◌, ◌-◌, ◌<◌, ◌≤◌, ◌≡◌, ◌==◌, ◌↔◌, Bool, true, false, List, [], ◌∷◌, length, Option, Some, if◌then◌else◌}
use Rattle.std.specs.List.{slice_get}
use Rattle.isoal_framed.specs.Calls.{Timed}

pub data Act : Type 0 where
  carries : (count : ℕ) (complete : Bool) → Act  -- so many octets of the due unit; complete: its last ones
  leaves_out : Act
  ends : Act

-- how many units are wholly sent or left out
abbrev pub done : List Act → ℕ
done [] = 0
done (carries count true ∷ acts) = done acts + 1
done (leaves_out ∷ acts) = done acts + 1
done (_ ∷ acts) = done acts

-- how many octets of the due unit are sent
abbrev pub sent : List Act → ℕ
sent (carries count false ∷ acts) = sent acts + count
sent (ends ∷ acts) = sent acts
sent _ = 0

-- the octets of a segment before those of its unit: a start has a time offset, a further segment has none
abbrev pub overhead : ℕ → ℕ
overhead sent = if sent == 0 then 5 else 2

-- how many octets are left of the PDU
abbrev pub room : ℕ → List Act → ℕ
room max_pdu (carries count complete ∷ acts) = room max_pdu acts - (overhead (sent acts) + count)
room max_pdu (leaves_out ∷ acts) = room max_pdu acts
room max_pdu _ = max_pdu

-- a place, in an event with this anchor: the room, the due unit where one was accepted, and how much of it is sent
pub record Place : Type 0 where
  pub anchor : ℕ
  pub room : ℕ
  pub due : Option Timed
  pub sent : ℕ

abbrev pub place_of : ℕ → List Timed → ℕ → List Act → Place
place_of max_pdu units anchor acts = record {
  anchor = anchor;
  room = room max_pdu acts;
  due = slice_get units (done acts);
  sent = sent acts;
}

-- the least room for an octet of a unit, or for an empty unit
abbrev pub least_room : ℕ → ℕ → ℕ
least_room sent count = overhead sent + (if count == 0 then 0 else 1)

-- the due unit has its turn: it is partly sent, or its time isn't past the anchor; and there is room for it
pub record HasTurn (place : Place) (unit : Timed) : Type 0 where
  pub due : place.due ≡ Some unit
  pub ready : place.sent ≡ 0 → unit.time ≤ place.anchor
  pub room : least_room place.sent (length unit.octets) ≤ place.room

-- its time offset has no room in 24 bits
abbrev pub IsStale : Place → Timed → Type 0
IsStale place unit = (place.sent ≡ 0) × (16777215 < place.anchor - unit.time)

-- parts 1 and 2: a segment has the next octets of the due unit, as many as fit; it is complete where they are the last ones
pub record IsSegment (place : Place) (unit : Timed) (count : ℕ) (complete : Bool) : Type 0 where
  pub within : place.sent + count ≤ length unit.octets
  pub complete_is : (complete ≡ true) ↔ (place.sent + count ≡ length unit.octets)
  pub some : count ≡ 0 → length unit.octets ≡ 0
  pub fits : overhead place.sent + count ≤ place.room
  pub fills : complete ≡ false → overhead place.sent + count ≡ place.room

-- the four parts as conditions on what comes at a place: a PDU ends where no unit has its turn, and no turn is passed
-- over; the unit is left out where it is stale, and else a segment of it comes
abbrev pub Comes : Place → Act → Type 0
Comes place (carries count complete) = (unit : Timed) × HasTurn place unit × (¬ IsStale place unit) × IsSegment place unit count complete
Comes place leaves_out = (unit : Timed) × HasTurn place unit × IsStale place unit
Comes place ends = (unit : Timed) → ¬ HasTurn place unit
