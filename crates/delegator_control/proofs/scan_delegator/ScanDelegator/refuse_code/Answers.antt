use Rattle.delegator_control.proofs.Prelude.{reply_by, machine, arith}
use Rattle.delegator_control.proofs.Serving.{code_cause}
use Rattle.delegator_control.proofs.scan_delegator.ScanDelegator.refuse_code.Goals as goal

pub returns-then-is_some : goal.returns-then-is_some
returns-then-is_some c code = grind (arith, reply_by, code_cause, machine)

pub returns : goal.returns
returns c code = grind (arith, reply_by, code_cause, machine)
