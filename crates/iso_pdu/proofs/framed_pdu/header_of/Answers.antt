use Rattle.iso_pdu.proofs.Prelude.{refl}
use Rattle.iso_pdu.proofs.framed_pdu.header_of.Goals as goal

pub returns-then-complete : goal.returns-then-complete
returns-then-complete c = rw c.if-complete.true refl
