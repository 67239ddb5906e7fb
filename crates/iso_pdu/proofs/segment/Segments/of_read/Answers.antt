use Rattle.iso_pdu.proofs.Prelude.{arith, framed, parts_of, parts_in}
use Rattle.iso_pdu.proofs.PdusRead.{read_long, read_parts}
use Rattle.iso_pdu.proofs.segment.Segments.of_read.Goals as goal

pub behind_header-requires : goal.behind_header-requires
behind_header-requires c = read_long c.requires.0 c.args.pdu.now (framed c.requires.1) c.requires.2

pub invariant_of-result : goal.invariant_of-result
invariant_of-result c = grind (arith, read_parts, parts_of, parts_in)

pub returns : goal.returns
returns c = grind (arith, read_parts, parts_of, parts_in)
