use Rattle.iso_pdu.proofs.Prelude.{sym}
use Rattle.iso_pdu.proofs.framed_pdu.FramedPdu.as_slice.Goals as goal

pub returns : goal.returns
returns c = rw (sym c.self.view_is) c.self.invariant.encoded
