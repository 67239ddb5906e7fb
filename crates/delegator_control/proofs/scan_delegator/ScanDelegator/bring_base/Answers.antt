use Rattle.delegator_control.proofs.Prelude.{on_err_weaker, is_ok, base_of, base_in, train_of, machine, arith}
use Rattle.delegator_control.proofs.Wanting.{is_read, of_base, on_any_err}
use Rattle.delegator_control.proofs.scan_delegator.ScanDelegator.bring_base.Goals as goal

pub returns-in_err-outcome-in-Ok-clause-memory : goal.returns-in_err-outcome-in-Ok-clause-memory
returns-in_err-outcome-in-Ok-clause-memory c = grind (arith, on_any_err, of_base, machine, train_of, base_in, is_ok)

pub returns-in_err-keep-in-Ok-clause-memory : goal.returns-in_err-keep-in-Ok-clause-memory
returns-in_err-keep-in-Ok-clause-memory c = grind (arith, on_any_err, of_base, machine, train_of, base_in, is_ok)

pub returns-in-Err-clause-memory : goal.returns-in-Err-clause-memory
returns-in-Err-clause-memory c = grind (arith, on_err_weaker, of_base, machine, train_of, base_in, is_read, base_of)
