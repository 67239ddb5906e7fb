-- Faults by what stands where they are: the first fault of a PDU, in the order of the fields, and in the segments the
-- one at the cut, behind the whole segments from the left (Core 5.2, volume 6 part B, section 2.6, and part G, section 2).
use Rattle.std.specs.Prelude.{ℕ, ◌<◌, ◌≤◌, ◌≡◌, ◌≢◌, ◌%◌, List, [], ◌∷◌, ◌++◌, length}
use Rattle.iso_pdu.specs.declared.fault.PduFault.{PduFault}
use Rattle.iso_pdu.specs.declared.fault.PduFault.TheVariants.{Short, LengthDiffers, TooLong, SegmentShort, SegmentNoOffset}
use Rattle.iso_pdu.specs.Layout.{Part, SegmentsAre}

-- the number that stands for a fault in a transcript
abbrev pub number_of : PduFault → ℕ
number_of Short = 1
number_of LengthDiffers = 2
number_of TooLong = 3
number_of (SegmentShort place) = 4
number_of (SegmentNoOffset place) = 5

-- one octet alone, or a Length that passes the end
abbrev pub StandsShort : List ℕ → Type 0
StandsShort [] = ⊥
StandsShort (header ∷ []) = Unit {0}
StandsShort (header ∷ count ∷ octets) = length octets < count

-- a start whose octets are there, but not those of the time offset
abbrev pub StandsNoOffset : List ℕ → Type 0
StandsNoOffset [] = ⊥
StandsNoOffset (header ∷ []) = ⊥
StandsNoOffset (header ∷ count ∷ octets) = (count ≤ length octets) × (header % 2 ≡ 0) × (count < 3)

-- whole segments up to the place, and there what P says
abbrev pub AtCut : (List ℕ → Type 0) → ℕ → List ℕ → Type 0
AtCut P place payload =
    (parts : List Part) × (prefix : List ℕ) × (rest : List ℕ) × SegmentsAre parts prefix × (length prefix ≡ place) × P rest × (payload ≡ prefix ++ rest)

-- the octets are a header, a Length that is right and at most max_pdu, and a payload of which P holds under LLID 0b10
abbrev pub InFramed : ℕ → (List ℕ → Type 0) → List ℕ → Type 0
InFramed max_pdu P octets =
    (header : ℕ) × (payload : List ℕ) × (header % 4 ≡ 2) × (length payload ≤ max_pdu) × P payload × (octets ≡ header ∷ length payload ∷ payload)

-- this is the fault of octets, where a payload has at most max_pdu octets
abbrev pub FaultIs : ℕ → PduFault → List ℕ → Type 0
FaultIs max_pdu Short octets = length octets < 2
FaultIs max_pdu LengthDiffers octets =
    (header : ℕ) × (count : ℕ) × (payload : List ℕ) × (count ≢ length payload) × (octets ≡ header ∷ count ∷ payload)
FaultIs max_pdu TooLong octets =
    (header : ℕ) × (payload : List ℕ) × (max_pdu < length payload) × (octets ≡ header ∷ length payload ∷ payload)
FaultIs max_pdu (SegmentShort place) octets = InFramed max_pdu (AtCut StandsShort place) octets
FaultIs max_pdu (SegmentNoOffset place) octets = InFramed max_pdu (AtCut StandsNoOffset place) octets
