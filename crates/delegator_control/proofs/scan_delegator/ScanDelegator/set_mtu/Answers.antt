use Rattle.delegator_control.proofs.Prelude.{machine}
use Rattle.delegator_control.proofs.Standing.{stands_mtu}
use Rattle.delegator_control.proofs.scan_delegator.ScanDelegator.set_mtu.Goals as goal

pub returns-clause-stands : goal.returns-clause-stands
returns-clause-stands c steps stands = stands_mtu c.args.mtu steps (machine c.args.self.now) stands
