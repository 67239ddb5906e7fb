use Rattle.delegator_control.proofs.Prelude.{refl, on_ok_weaker, written, machine}
use Rattle.delegator_control.proofs.Standing.{stands_done}
use Rattle.delegator_control.proofs.scan_delegator.ScanDelegator.serve.Goals as goal

pub returns-clause-stands : goal.returns-clause-stands
returns-clause-stands c =
    on_ok_weaker c.serve_write.result (λ is steps stands.
    stands_done (written c.args.write.now) steps (machine c.args.self.now) (machine c.serve_write.new.self) refl refl is stands)
    c.serve_write.ensures.step
