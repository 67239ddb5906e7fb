use Rattle.delegator_control.proofs.Prelude.{◌∷◌, sym, subst, notified, machine, StandsFor}
use Rattle.delegator_control.proofs.Standing.{stands_told}
use Rattle.delegator_control.proofs.scan_delegator.ScanDelegator.next_notice.Goals as goal

pub returns-clause-stands : goal.returns-clause-stands
returns-clause-stands c steps stands = subst (StandsFor (notified ∷ steps)) (sym c.take_notice.ensures.step) (stands_told steps (machine c.args.self.now) stands)
