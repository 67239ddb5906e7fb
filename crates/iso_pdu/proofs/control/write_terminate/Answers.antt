use Rattle.iso_pdu.proofs.Controls.{terminate-is, control_of-layout}
use Rattle.iso_pdu.proofs.PdusRead.{read_of-pdu}
use Rattle.iso_pdu.proofs.Prelude.{terminate, control, Terminate}
use Rattle.iso_pdu.proofs.control.write_terminate.Goals as goal

pub returns-clause-payload : goal.returns-clause-payload
returns-clause-payload c = λ max_pdu fits. read_of-pdu max_pdu (control (terminate c.args.reason c.args.instant)) fits

pub returns-clause-read : goal.returns-clause-read
returns-clause-read c = control_of-layout (Terminate c.args.reason c.args.instant) (terminate c.args.reason c.args.instant) (terminate-is c.args.reason c.args.instant)
