use Rattle.iso_pdu.proofs.Prelude.{arith, refl}
use Rattle.iso_pdu.specs.Reading.{parts_from}
use Rattle.iso_pdu.proofs.framed_pdu.FramedPdu.new.Goals as goal

pub invariant_of-result : goal.invariant_of-result
unfolding parts_from
invariant_of-result c = record { greatest = c.requires; within = omega arith; encoded = refl }

pub returns : goal.returns
unfolding parts_from
returns c = refl
