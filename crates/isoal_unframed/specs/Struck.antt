-- The units that a stay brings through, told by the units of the source's slots and by the numbers heard alone, and by
-- no octet heard (Core 5.2, volume 6 part G, section 2.1).
use Rattle.std.specs.Prelude.{ℕ, ◌+◌, ◌*◌, ◌/◌, ◌%◌, ◌<◌, ◌≡◌, List, [], ◌∷◌, ◌++◌, map, Option, Some}
use Rattle.std.specs.List.{AllZip, range_with_len}
use Rattle.big_info.specs.Schedule.{per_event_of, per_unit_of}
use Rattle.iso_pdu.specs.Layout.{Content}
use Rattle.unit_outlets.specs.Handed.{Handed, valid, lost}
use Rattle.isoal_unframed.specs.Slot.{fragments_of, laid}
use Rattle.isoal_base.specs.Stays.{Stay, Call, hear, close, opened}
use Rattle.isoal_base.specs.Hearing.{read_as}
use Rattle.isoal_unframed.specs.Histories.{heard_in}
use Rattle.isoal_unframed.specs.Units.{unframed}
use Rattle.isoal_unframed.specs.State.Windows.{time_of}

-- the unit of each event and slot, where the slot has one
abbrev pub Slots : Type 0
Slots = ℕ → ℕ → Option (List ℕ)

-- the source's PDU at a payload number
abbrev pub air_at : Stay → Slots → ℕ → Content
air_at stay slots number =
    laid stay.info.max_pdu (slots (number / stay.info.bn) (number % stay.info.bn / per_unit_of stay.info)) (number % stay.info.bn % per_unit_of stay.info)

-- each PDU of the stream that is heard is the source's own at its number
abbrev pub FromSource : Stay → Slots → List Call → Type 0
FromSource stay slots calls =
    (later : List Call) → (number : ℕ) → (octets : List ℕ) → (earlier : List Call) → (content : Content)
    → calls ≡ later ++ hear number octets ∷ earlier → read_as unframed stay.info.max_pdu octets ≡ Some content
    → content ≡ air_at stay slots number

-- the slot has this unit, and all numbers that carry it are heard
pub record Carried (stay : Stay) (slots : Slots) (calls : List Call) (event slot : ℕ) (unit : List ℕ) : Type 0 where
  pub has : slots event slot ≡ Some unit
  pub heard_all : (r : ℕ) → r < fragments_of stay.info.max_pdu unit
      → (content : Content) × (heard_in stay calls (event * stay.info.bn + slot * per_unit_of stay.info + r) ≡ Some content)

abbrev pub IsStruck : Stay → Slots → List Call → ℕ → ℕ → Handed → Type 0
IsStruck stay slots calls event slot (valid bis time octets) =
    (bis ≡ stay.bis) × (time ≡ time_of stay event slot) × Carried stay slots calls event slot octets
IsStruck stay slots calls event slot (lost bis time) =
    (bis ≡ stay.bis) × (time ≡ time_of stay event slot) × ((unit : List ℕ) → ¬ Carried stay slots calls event slot unit)

pub record Place : Type 0 where
  pub event : ℕ
  pub slot : ℕ

abbrev pub closed_slots : Stay → List Call → List Place
closed_slots stay [] = []
closed_slots stay (hear number octets ∷ calls) = closed_slots stay calls
closed_slots stay (close ∷ calls) =
    closed_slots stay calls ++ map (λ slot. record { event = opened stay calls; slot = slot }) (range_with_len 0 (per_event_of stay.info))

-- one entry for each slot of each closed event, in order
abbrev pub Struck : Stay → Slots → List Call → List Handed → Type 0
Struck stay slots calls entries = AllZip (λ place entry. IsStruck stay slots calls place.event place.slot entry) (closed_slots stay calls) entries
