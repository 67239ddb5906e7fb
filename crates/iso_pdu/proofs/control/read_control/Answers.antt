use Rattle.iso_pdu.proofs.Controls.{layout_of, fault_of}
use Rattle.iso_pdu.proofs.control.read_control.Goals as goal

pub returns-clause-layout : goal.returns-clause-layout
returns-clause-layout c = layout_of c.read_fields.result c.args.from.now c.read_fields.ensures

pub returns-clause-fault : goal.returns-clause-fault
returns-clause-fault c = fault_of c.read_fields.result c.args.from.now c.read_fields.ensures
