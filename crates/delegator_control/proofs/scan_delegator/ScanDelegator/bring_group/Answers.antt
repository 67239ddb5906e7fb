use Rattle.delegator_control.proofs.Prelude.{first_candidates, offset_of, taken, none_set, train_of, arith}
use Rattle.delegator_control.proofs.Followed.{by_none, by_some}
use Rattle.delegator_control.proofs.scan_delegator.ScanDelegator.bring_group.Goals as goal

pub returns-then-eq : goal.returns-then-eq
returns-then-eq c = grind (arith, first_candidates, by_none, train_of, none_set)

pub returns : goal.returns
returns c = grind (arith, first_candidates, taken, offset_of, by_some, train_of, none_set)
