use Rattle.iso_pdu.proofs.PdusRead.{read_of-encoded, read_of-layout}
use Rattle.iso_pdu.proofs.laws.read_is_layout.Goals as goal

pub returns : goal.returns
returns c = λ max_pdu x octets. (read_of-encoded max_pdu x octets, read_of-layout max_pdu x octets)
