use Rattle.delegator_control.proofs.Prelude.{refl, on_ok_weaker, machine}
use Rattle.delegator_history.specs.States.{control_heard}
use Rattle.delegator_control.proofs.Standing.{stands_done}
use Rattle.delegator_control.proofs.scan_delegator.ScanDelegator.control.Goals as goal

pub returns-clause-stands : goal.returns-clause-stands
returns-clause-stands c =
    on_ok_weaker c.hear_control.result (λ is steps stands.
    stands_done (control_heard c.args.pdu.now) steps (machine c.args.self.now) (machine c.hear_control.new.self) refl refl is stands)
    c.hear_control.ensures.step
