use Rattle.iso_pdu.proofs.PdusRead.{read_of-fault, fault-read_of}
use Rattle.iso_pdu.proofs.laws.fault_is_at_cut.Goals as goal

pub returns : goal.returns
returns c = λ max_pdu x octets. (read_of-fault max_pdu x octets, fault-read_of max_pdu x octets)
