use Rattle.delegator_control.proofs.Prelude.{◌∙◌, ap, refl, on_ok_weaker, train_heard, done_by_outcome, machine, moved}
use Rattle.delegator_control.proofs.Standing.{stands_done}
use Rattle.delegator_control.proofs.scan_delegator.ScanDelegator.follow.Goals as goal

pub returns-clause-stands : goal.returns-clause-stands
returns-clause-stands c =
    on_ok_weaker c.follow_outcome.result (λ is steps train same stands.
    stands_done (train_heard train) steps (machine c.args.self.now) (machine c.follow_outcome.new.self) refl refl
    (is ∙ ap (λ b. moved (done_by_outcome b) (machine c.args.self.now)) same) stands) c.follow_outcome.ensures.step
