-- What a sender of an unframed stream lays (Core 5.2, volume 6 part G, section 2.1), by division alone.
use Rattle.std.specs.Prelude.{ℕ, ◌+◌, ◌*◌, ◌/◌, ◌%◌, ◌==◌, if◌then◌else◌, Option, List, [], ◌∷◌, map}
use Rattle.std.specs.List.{range_with_len, slice_get}
use Rattle.big_info.specs.declared.info.BigInfo.{BigInfo}
use Rattle.big_info.specs.Schedule.{per_unit_of}
use Rattle.iso_pdu.specs.Encoding.{pdu}
use Rattle.isoal_base.specs.Air.{Air, Laid}
use Rattle.isoal_unframed.specs.Calls.{Call, accept, lay, accepted, begun, events}
use Rattle.isoal_unframed.specs.Slot.{laid}

-- the calls before the lay of an event
abbrev pub before_event : List Call → ℕ → List Call
before_event [] event = []
before_event (accept octets ∷ earlier) event = before_event earlier event
before_event (lay ∷ earlier) event = if events earlier == event then earlier else before_event earlier event

-- the unit of a slot of an event: slots take the accepted units in order, from the first that has none
abbrev pub unit_at : BigInfo → List Call → ℕ → ℕ → Option (List ℕ)
unit_at info calls event slot = slice_get (accepted (before_event calls event)) (begun info (before_event calls event) + slot)

-- LaidU: the PDU of a payload number
abbrev pub laid_u : BigInfo → List Call → ℕ → List ℕ
laid_u info calls number =
    pdu (laid info.max_pdu (unit_at info calls (number / info.bn) (number % info.bn / per_unit_of info)) (number % info.bn % per_unit_of info))

abbrev pub next_event : BigInfo → List Call → Laid
next_event info calls = record { pdus = map (laid_u info (lay ∷ calls)) (range_with_len (events calls * info.bn) info.bn); stale = [] }

abbrev pub unframed_air : BigInfo → List Call → Air
unframed_air info [] = []
unframed_air info (accept octets ∷ earlier) = unframed_air info earlier
unframed_air info (lay ∷ earlier) =
    record { event = next_event info earlier; begun = begun info (lay ∷ earlier) } ∷ unframed_air info earlier
