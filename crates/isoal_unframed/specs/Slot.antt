-- The PDUs of a slot of an unframed stream, by division alone (Core 5.2, volume 6 part G, section 2.1): full fragments,
-- the end fragment, and padding, which is a fragment of no octets.
use Rattle.std.specs.Prelude.{ℕ, ◌+◌, ◌*◌, max, nat_lt, ◌==◌, List, [], length, take, drop, Option, Some, None, if◌then◌else◌}
use Rattle.std.specs.Int.{div_ceil}
use Rattle.iso_pdu.specs.Layout.{Content, fragment, end}

-- f: how many fragments a unit has, at least one
abbrev pub fragments_of : ℕ → List ℕ → ℕ
fragments_of max_pdu unit = max 1 (div_ceil (length unit) max_pdu)

-- the PDU at place r, from 0, of the slot of this unit
abbrev pub laid_unit : ℕ → List ℕ → ℕ → Content
laid_unit max_pdu unit r = if nat_lt (r + 1) (fragments_of max_pdu unit) then fragment (take max_pdu (drop (r * max_pdu) unit))
    else if r + 1 == fragments_of max_pdu unit then end (drop (r * max_pdu) unit) else fragment []

abbrev pub laid : ℕ → Option (List ℕ) → ℕ → Content
laid max_pdu None r = fragment []
laid max_pdu (Some unit) r = laid_unit max_pdu unit r
