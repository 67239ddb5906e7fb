-- The octets of a PDU that is written (Core 5.2, volume 6 part B, section 2.6, and part G, section 2): the layout with
-- all free bits 0.
use Rattle.std.specs.Prelude.{ℕ, ◌+◌, ◌*◌, ◌/◌, ◌%◌, List, [], ◌∷◌, ◌++◌, length}
use Rattle.std.specs.List.{flat_map}
use Rattle.iso_pdu.specs.Layout.{Part, start, more, Content, end, fragment, framed, control, bit, llid}

-- three octets of a time offset, the least first
abbrev pub offset_octets : ℕ → List ℕ
offset_octets offset = (offset % 256) ∷ (offset / 256 % 256) ∷ (offset / 65536) ∷ []

abbrev pub segment : Part → List ℕ
segment (start offset complete octets) = (2 * bit complete) ∷ (3 + length octets) ∷ (offset_octets offset ++ octets)
segment (more complete octets) = (1 + 2 * bit complete) ∷ length octets ∷ octets

abbrev pub segments : List Part → List ℕ
segments parts = flat_map segment parts

abbrev pub payload_of : Content → List ℕ
payload_of (end octets) = octets
payload_of (fragment octets) = octets
payload_of (framed parts) = segments parts
payload_of (control octets) = octets

abbrev pub pdu : Content → List ℕ
pdu content = llid content ∷ length (payload_of content) ∷ payload_of content
