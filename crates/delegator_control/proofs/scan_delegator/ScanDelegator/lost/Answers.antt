use Rattle.delegator_control.proofs.Prelude.{refl, on_ok_weaker, train_lost, machine}
use Rattle.delegator_control.proofs.Standing.{stands_done}
use Rattle.delegator_control.proofs.scan_delegator.ScanDelegator.lost.Goals as goal

pub returns-clause-stands : goal.returns-clause-stands
returns-clause-stands c =
    on_ok_weaker c.go.result (λ is steps stands. stands_done (train_lost) steps (machine c.args.self.now) (machine c.go.new.self) refl refl is stands) c.go.ensures.step
