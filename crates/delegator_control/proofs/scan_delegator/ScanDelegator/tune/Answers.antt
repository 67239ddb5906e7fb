use Rattle.delegator_control.proofs.Prelude.{refl, on_ok_weaker, sync_to_group, machine}
use Rattle.delegator_control.proofs.Standing.{stands_done}
use Rattle.delegator_control.proofs.scan_delegator.ScanDelegator.tune.Goals as goal

pub returns-clause-stands : goal.returns-clause-stands
returns-clause-stands c =
    on_ok_weaker c.sync_on_group.result (λ is steps big_sync stands.
    stands_done (sync_to_group big_sync) steps (machine c.args.self.now) (machine c.sync_on_group.new.self) refl refl is stands)
    c.sync_on_group.ensures.step
