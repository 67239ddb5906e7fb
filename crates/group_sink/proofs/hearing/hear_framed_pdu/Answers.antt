use Rattle.group_sink.proofs.Prelude.{Some, None, refl, get_or_from_slice_get}
use Rattle.group_sink.proofs.hearing.hear_framed_pdu.Goals as goal

pub returns-in-Some-pdu : goal.returns-in-Some-pdu
returns-in-Some-pdu g c = rw (get_or_from_slice_get _ _ (Some c.in-Some-pdu.pdu.now) None c.in-Some-pdu.ensures, c.in-Some.is, c.hear.ensures.step) refl
