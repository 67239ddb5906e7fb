-- Segments and PDUs (Core 5.2, volume 6 part B, section 2.6, and part G, section 2) without where their octets lie in
-- memory.
use Rattle.iso_pdu.specs.declared.segment.Segment.{Segment}
use Rattle.iso_pdu.specs.declared.segment.Segment.TheVariants.{Start, More}
use Rattle.iso_pdu.specs.declared.pdu.Pdu.{Pdu}
use Rattle.iso_pdu.specs.declared.pdu.Pdu.TheVariants.{Fragment, End, Framed, Control}
use Rattle.iso_pdu.specs.Layout.{Part, start, more, Content, end, fragment, framed, control}

abbrev pub part_of : Segment → Part
part_of (Start offset complete part) = start offset complete part.now
part_of (More complete part) = more complete part.now

abbrev pub content_of : Pdu → Content
content_of (Fragment part) = fragment part.now
content_of (End part) = end part.now
content_of (Framed parts) = framed parts
content_of (Control payload) = control payload.now
