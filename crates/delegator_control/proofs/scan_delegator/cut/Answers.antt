use Rattle.delegator_control.proofs.Prelude.{refl}
use Rattle.delegator_control.proofs.scan_delegator.cut.Goals.{in-Some, in_default}
use Rattle.delegator_control.proofs.scan_delegator.cut.Goals as goal

pub returns : goal.returns
returns c = elim c.match-mtu.branch [
  | in-Some w ↦ rw (w.in-Some.is, w.value-is, w.truncate.ensures, w.saturating_sub.ensures, w.from.ensures) refl
  | in_default w ↦ rw (w.in_default.is, w.value-is) refl
]
