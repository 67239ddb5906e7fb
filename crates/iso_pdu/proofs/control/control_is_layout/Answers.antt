use Rattle.iso_pdu.proofs.Controls.{control_of-layout, control_of-read, fault-control_of, control_of-fault}
use Rattle.iso_pdu.proofs.control.control_is_layout.Goals as goal

pub returns-clause-layout : goal.returns-clause-layout
returns-clause-layout c = λ told octets. (control_of-read told octets, control_of-layout told octets)

pub returns-clause-fault : goal.returns-clause-fault
returns-clause-fault c = λ fault octets. (control_of-fault fault octets, fault-control_of fault octets)
