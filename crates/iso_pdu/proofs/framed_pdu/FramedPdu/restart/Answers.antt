use Rattle.iso_pdu.proofs.Prelude.{length, take, drop, set, arith, parts_in, segments}
use Rattle.iso_pdu.specs.Reading.{parts_from}
use Rattle.iso_pdu.proofs.Packs.{header_alone}
use Rattle.iso_pdu.proofs.framed_pdu.FramedPdu.restart.Goals as goal

pub invariant_of-self : goal.invariant_of-self
unfolding parts_from
invariant_of-self c = grind (arith, segments, parts_in, drop, take, set, header_alone, length)

pub returns : goal.returns
unfolding parts_from
returns c = grind (arith, segments, parts_in, drop, take, set, header_alone, length)
