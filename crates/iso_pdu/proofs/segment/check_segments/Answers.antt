use Rattle.iso_pdu.proofs.Prelude.{length, drop, arith, length-drop}
use Rattle.iso_pdu.proofs.PartsRead.{result_err-nothing}
use Rattle.iso_pdu.proofs.segment.check_segments.Goals as goal

pub returns : goal.returns
returns c = grind (arith, length, drop, length-drop, result_err-nothing)
