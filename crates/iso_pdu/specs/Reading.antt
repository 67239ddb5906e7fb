-- Reading a PDU (Core 5.2, volume 6 part B, section 2.6, and part G, section 2) from left to right, with the first
-- fault that is met.
use Rattle.std.specs.Result.{result_unwrap_or, result_err}
use Rattle.std.specs.Prelude.{ℕ, zero, suc, ◌≡◌, ◌≤◌, ◌+◌, ◌/◌, ◌%◌, ◌==◌, nat_lt, ◌&&◌, List, [], ◌∷◌, length, take, drop, Option, Some, None, Result, Ok, Err, if◌then◌else◌}
use Rattle.bcast_base.specs.Numbers.{sum_from}
use Rattle.iso_pdu.specs.declared.fault.PduFault.{PduFault}
use Rattle.iso_pdu.specs.declared.fault.PduFault.TheVariants.{Short, LengthDiffers, TooLong, SegmentShort, SegmentNoOffset}
use Rattle.iso_pdu.specs.Layout.{Part, start, more, Content, end, fragment, framed, control}

-- the segment of this header and of the octets that its Length counts
abbrev pub part_at : ℕ → List ℕ → Part
part_at header body = if header % 2 == 1 then more (header / 2 % 2 == 1) body
    else start (sum_from 0 (take 3 body)) (header / 2 % 2 == 1) (drop 3 body)

-- what is wrong with a segment at this place, of this header and Length, that so many octets follow
abbrev pub fault_at : ℕ → ℕ → ℕ → ℕ → Option PduFault
fault_at place header count left = if nat_lt left count then Some (SegmentShort place)
    else if (header % 2 == 0) && nat_lt count 3 then Some (SegmentNoOffset place) else None

abbrev pub before : Part → Result (List Part) PduFault → Result (List Part) PduFault
before part (Ok parts) = Ok (part ∷ parts)
before part (Err fault) = Err fault

abbrev pub unless : Option PduFault → Result (List Part) PduFault → Result (List Part) PduFault
unless None read = read
unless (Some fault) read = Err fault

-- the segments of the octets from this place on, of which the first so many are of a segment that was read
unfoldable pub parts_from : ℕ → ℕ → List ℕ → Result (List Part) PduFault
parts_from place (suc inside) (octet ∷ octets) = parts_from (place + 1) inside octets
parts_from place (suc inside) [] = Ok []
parts_from place zero [] = Ok []
parts_from place zero (header ∷ []) = Err (SegmentShort place)
parts_from place zero (header ∷ count ∷ octets) = unless (fault_at place header count (length octets))
    (before (part_at header (take count octets)) (parts_from (place + 1) (suc count) (count ∷ octets)))

-- so many octets at the front, which is at this place, are a whole segment: the first fault is that of what follows
pub record IsPassed (place : ℕ) (octets : List ℕ) (count : ℕ) : Type 0 where
  pub header : 2 ≤ count
  pub within : count ≤ length octets
  pub same : result_err (parts_from (place + count) 0 (drop count octets)) ≡ result_err (parts_from place 0 octets)

abbrev pub parts_of : List ℕ → Result (List Part) PduFault
parts_of payload = parts_from 0 0 payload

-- the segments of a payload that has no fault
abbrev pub parts_in : List ℕ → List Part
parts_in payload = result_unwrap_or (parts_of payload) []

abbrev pub framed_of : Result (List Part) PduFault → Result Content PduFault
framed_of (Ok parts) = Ok (framed parts)
framed_of (Err fault) = Err fault

abbrev pub content_at : ℕ → List ℕ → Result Content PduFault
content_at zero payload = Ok (end payload)
content_at (suc zero) payload = Ok (fragment payload)
content_at (suc (suc zero)) payload = framed_of (parts_of payload)
content_at (suc (suc (suc _))) payload = Ok (control payload)

-- what octets are read as, where a payload has at most this many octets
unfoldable pub read_of : ℕ → List ℕ → Result Content PduFault
read_of max_pdu (header ∷ count ∷ payload) =
    if count == length payload then (if nat_lt max_pdu count then Err TooLong else content_at (header % 4) payload) else Err LengthDiffers
read_of max_pdu _ = Err Short
