use Rattle.delegator_control.proofs.Prelude.{machine, moved, arith}
use Rattle.delegator_control.proofs.Standing.{control_left, control_leaves, control_stays}
use Rattle.delegator_control.proofs.Wanting.{on_any_err}
use Rattle.delegator_control.proofs.scan_delegator.ScanDelegator.hear_control.Goals as goal

pub returns-then-not-leaves-clause-step : goal.returns-then-not-leaves-clause-step
returns-then-not-leaves-clause-step c =
    control_stays (machine c.args.self.now) c.args.pdu.now c.heard_control-heard.result c.leaves.result c.heard_control-heard.ensures c.leaves.ensures c.if-not-leaves.true

pub returns-clause-step : goal.returns-clause-step
returns-clause-step c = grind (arith, moved, machine, control_leaves)

pub returns-in_err-go-clause-memory : goal.returns-in_err-go-clause-memory
returns-in_err-go-clause-memory c = grind (arith, on_any_err, control_left, machine)
