use Rattle.receive_state.proofs.Prelude.{err_from_is_err_and, arith}
use Rattle.receive_state.proofs.Loops.{end_next, end_short, end_done}
use Rattle.receive_state.proofs.groups.groups_end.Goals as goal

pub returns-in_err-rest-clause-field : goal.returns-in_err-rest-clause-field
returns-in_err-rest-clause-field c = grind (arith, err_from_is_err_and, end_short)

pub groups-preserved : goal.groups-preserved
groups-preserved c = grind (arith, end_next)

pub returns-clause-field : goal.returns-clause-field
returns-clause-field c = end_done c.args.whole.now c.args.count c.groups.counter c.groups.rest.now _ c.groups-test.false c.groups.invariant.0
