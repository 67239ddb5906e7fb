use Rattle.iso_pdu.proofs.PdusRead.{pdu-is, read_of-pdu}
use Rattle.iso_pdu.proofs.laws.written_is_read.Goals as goal

pub returns-clause-layout : goal.returns-clause-layout
returns-clause-layout c = λ content. pdu-is content

pub returns-clause-read : goal.returns-clause-read
returns-clause-read c = λ max_pdu content fits. read_of-pdu max_pdu content fits
