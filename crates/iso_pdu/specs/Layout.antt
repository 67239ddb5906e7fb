-- The layouts of isochronous PDUs: Core 5.2, volume 6 part B, section 2.6, and part G, section 2
-- (fragments of the unframed PDUs, segments of the framed ones). Each is the concatenation of its fields. CSSN,
-- CSTF and RFU bits are free.
use Rattle.std.specs.Prelude.{ℕ, ◌/◌, ◌%◌, ◌≡◌, ◌≤◌, Bool, true, false, List, [], ◌∷◌, ◌++◌, length}
use Rattle.std.specs.List.{AllByRecursion}
use Rattle.bcast_base.specs.Numbers.{Le}

-- a segment: the first of a unit, with the time offset in µs, or a further one; complete says that it is the unit's last
pub data Part : Type 0 where
  start : (offset : ℕ) (complete : Bool) (octets : List ℕ) → Part
  more : (complete : Bool) (octets : List ℕ) → Part

pub data Content : Type 0 where
  end : (octets : List ℕ) → Content
  fragment : (octets : List ℕ) → Content
  framed : (parts : List Part) → Content
  control : (octets : List ℕ) → Content

abbrev pub bit : Bool → ℕ
bit false = 0
bit true = 1

-- the header of a segment: SC is bit 0, CMPLT bit 1
pub record IsSegmentHeader (sc : ℕ) (complete : Bool) (header : ℕ) : Type 0 where
  pub start_bit : header % 2 ≡ sc
  pub complete_bit : header / 2 % 2 ≡ bit complete

-- what follows the Length of a segment: behind SC 0 three octets of time offset and the part, behind SC 1 the part
abbrev pub BodyIs : Part → ℕ → List ℕ → Type 0
BodyIs (start offset complete octets) header body =
    IsSegmentHeader 0 complete header × (time : List ℕ) × (length time ≡ 3) × Le offset time × (body ≡ time ++ octets)
BodyIs (more complete octets) header body = IsSegmentHeader 1 complete header × (body ≡ octets)

-- a segment: its header, Length, and so many octets
abbrev pub SegmentIs : Part → List ℕ → Type 0
SegmentIs part octets = (header : ℕ) × (body : List ℕ) × BodyIs part header body × (octets ≡ header ∷ length body ∷ body)

-- segments, one behind the other
abbrev pub SegmentsAre : List Part → List ℕ → Type 0
SegmentsAre [] payload = payload ≡ []
SegmentsAre (part ∷ parts) payload =
    (first : List ℕ) × (others : List ℕ) × SegmentIs part first × SegmentsAre parts others × (payload ≡ first ++ others)

abbrev pub llid : Content → ℕ
llid (end octets) = 0
llid (fragment octets) = 1
llid (framed parts) = 2
llid (control octets) = 3

abbrev pub PayloadIs : Content → List ℕ → Type 0
PayloadIs (end octets) payload = payload ≡ octets
PayloadIs (fragment octets) payload = payload ≡ octets
PayloadIs (framed parts) payload = SegmentsAre parts payload
PayloadIs (control octets) payload = payload ≡ octets

-- a PDU: its header with LLID in bits 0 and 1, Length, and so many octets
abbrev pub PduIs : Content → List ℕ → Type 0
PduIs content octets =
    (header : ℕ) × (payload : List ℕ) × (header % 4 ≡ llid content) × PayloadIs content payload × (octets ≡ header ∷ length payload ∷ payload)

-- the octets of its unit that a segment has
abbrev pub octets_of : Part → List ℕ
octets_of (start offset complete octets) = octets
octets_of (more complete octets) = octets

-- each string of octets that the content has is at most this long
abbrev pub HasAtMost : ℕ → Content → Type 0
HasAtMost most (end octets) = length octets ≤ most
HasAtMost most (fragment octets) = length octets ≤ most
HasAtMost most (framed parts) = AllByRecursion (λ part. length (octets_of part) ≤ most) parts
HasAtMost most (control octets) = length octets ≤ most
