use Rattle.delegator_control.proofs.Prelude.{refl, locations_set, located, machine}
use Rattle.delegator_control.proofs.Standing.{moved_setting, stands_done}
use Rattle.delegator_control.proofs.scan_delegator.ScanDelegator.set_locations.Goals as goal

pub returns-clause-step : goal.returns-clause-step
returns-clause-step c = moved_setting (machine c.args.self.now) (located c.args.bits) (λ i. refl)

pub returns-clause-stands : goal.returns-clause-stands
returns-clause-stands c steps stands =
    stands_done (locations_set c.args.bits) steps (machine c.args.self.now) _ refl refl (moved_setting (machine c.args.self.now) (located c.args.bits) (λ i. refl)) stands
