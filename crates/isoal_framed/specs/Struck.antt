-- The units that a stay brings through, told by the units that the source sent and by the numbers heard alone, and by no
-- octet heard (Core 5.2, volume 6 part G, section 2.2).
use Rattle.std.specs.Prelude.{ℕ, ◌+◌, ◌-◌, ◌*◌, ◌/◌, ◌≤◌, ◌≡◌, ◌==◌, nat_lt, ◌&&◌, is_some, Bool, true, false, List, [], ◌∷◌, length, Option, Some, None, if◌then◌else◌}
use Rattle.std.specs.List.{AllByRecursion, flat_map}
use Rattle.iso_pdu.specs.Layout.{Part, start, more}
use Rattle.unit_outlets.specs.Handed.{Handed, valid, lost}
use Rattle.isoal_base.specs.Stays.{Stay, Call, opened}
use Rattle.isoal_framed.specs.Histories.{heard_in}
use Rattle.isoal_framed.specs.Tokens.{time_of}

-- a unit that was sent: the number that carries its first segment, its TimeOffset, the octets of its segments, of which
-- each further one is carried by the next number, and whether it is wholly laid
pub record Sent : Type 0 where
  pub first : ℕ
  pub offset : ℕ
  pub segments : List (List ℕ)
  pub whole : Bool

abbrev pub octets_in : List (List ℕ) → List ℕ
octets_in segments = flat_map (λ octets. octets) segments

-- the number behind those that carry it
abbrev pub behind : Sent → ℕ
behind unit = unit.first + length unit.segments

-- the segment that a number carries, of those from this number on; the first of a unit has its TimeOffset
abbrev pub is_last : List (List ℕ) → Bool
is_last [] = true
is_last (octets ∷ segments) = false

abbrev pub part_with : Option ℕ → Bool → List ℕ → Part
part_with (Some offset) complete octets = start offset complete octets
part_with None complete octets = more complete octets

abbrev pub carried : ℕ → Option ℕ → List (List ℕ) → Bool → ℕ → List Part
carried from offset [] whole number = []
carried from offset (octets ∷ segments) whole number =
    if from == number then part_with offset (whole && is_last segments) octets ∷ [] else carried (from + 1) None segments whole number

abbrev pub parts_at : List Sent → ℕ → List Part
parts_at units number = flat_map (λ unit. carried unit.first (Some unit.offset) unit.segments unit.whole number) units

-- units that stand in order, where so many numbers are laid: each has a segment, begins in the last PDU of the one before
-- it or behind that, and is wholly laid, but for the last one, which may reach to the end of what is laid
abbrev pub InOrder : ℕ → ℕ → List Sent → Type 0
InOrder from laid [] = Unit {0}
InOrder from laid (unit ∷ units) =
    (from ≤ unit.first) × (1 ≤ length unit.segments) × (unit.whole ≡ false → (units ≡ []) × (laid ≤ behind unit))
    × InOrder (behind unit - 1) laid units

abbrev pub Fit : ℕ → List Sent → Type 0
Fit max_sdu units = AllByRecursion (λ unit. length (octets_in unit.segments) ≤ max_sdu) units

-- each PDU of the stream that is heard is the source's own at its number
abbrev pub FromSource : Stay → List Sent → List Call → Type 0
FromSource stay units calls =
    (number : ℕ) → (parts : List Part) → heard_in stay calls number ≡ Some parts → parts ≡ parts_at units number

-- the numbers heard, and the end of those whose events are closed
abbrev pub is_heard : Stay → List Call → ℕ → Bool
is_heard stay calls number = is_some (heard_in stay calls number)

abbrev pub closed_end : Stay → List Call → ℕ
closed_end stay calls = opened stay calls * stay.info.bn

abbrev pub first_missing : (ℕ → Bool) → ℕ → List (List ℕ) → Option ℕ
first_missing heard number [] = None
first_missing heard number (octets ∷ segments) = if heard number then first_missing heard (number + 1) segments else Some number

-- the entry of a unit whose start is heard: valid where it is wholly laid, all numbers that carry it are heard and their
-- events are closed; lost where the first that isn't heard has a closed event; else none yet
abbrev pub entry_by : Stay → ℕ → Sent → Option ℕ → List Handed
entry_by stay closed unit None = if unit.whole && nat_lt (behind unit - 1) closed then
    valid stay.bis (time_of stay (unit.first / stay.info.bn) unit.offset) (octets_in unit.segments) ∷ [] else []
entry_by stay closed unit (Some number) =
    if nat_lt number closed then lost stay.bis (time_of stay (unit.first / stay.info.bn) unit.offset) ∷ [] else []

abbrev pub entry_of : Stay → (ℕ → Bool) → ℕ → Sent → List Handed
entry_of stay heard closed unit = if heard unit.first then entry_by stay closed unit (first_missing heard unit.first unit.segments) else []

-- Struck: the entries of the units, in order
abbrev pub struck : Stay → List Sent → List Call → List Handed
struck stay units calls = flat_map (entry_of stay (is_heard stay calls) (closed_end stay calls)) units
