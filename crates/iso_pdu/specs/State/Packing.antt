-- A framed PDU (Core 5.2, volume 6 part G, section 2) that is being filled.
use Rattle.std.specs.Prelude.{ℕ, ◌+◌, ◌-◌, ◌≤◌, ◌≡◌, List, length, take, drop}
use Rattle.iso_pdu.specs.Layout.{Part, framed}
use Rattle.iso_pdu.specs.Reading.{parts_in}
use Rattle.iso_pdu.specs.Encoding.{segments, pdu}

-- its greatest payload, and the segments put so far
pub record Packed : Type 0 where
  pub max_pdu : ℕ
  pub parts : List Part

-- how many octets are left of the payload
abbrev pub room_in : Packed → ℕ
room_in packed = packed.max_pdu - length (segments packed.parts)

-- the first so many octets are the PDU of the segments put so far
abbrev pub packed_in : ℕ → ℕ → List ℕ → Packed
packed_in max_pdu end octets = record { max_pdu = max_pdu; parts = parts_in (drop 2 (take end octets)) }

pub record IsPacked (max_pdu end : ℕ) (octets : List ℕ) : Type 0 where
  pub greatest : max_pdu ≤ 251
  pub within : end ≤ max_pdu + 2
  pub encoded : take end octets ≡ pdu (framed (parts_in (drop 2 (take end octets))))
