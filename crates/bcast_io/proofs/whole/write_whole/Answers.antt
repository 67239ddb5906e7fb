use Rattle.bcast_io.proofs.Prelude.{rules, take_rest, err_from_is_err_and}
use Rattle.bcast_io.proofs.Transfers.{Appends-kept, Appends-more, AppendsPrefix-cut, AppendsShort-cut}
use Rattle.bcast_io.proofs.whole.write_whole.Goals as goal

pub returns-in_err-done-clause-err : goal.returns-in_err-done-clause-err
returns-in_err-done-clause-err g c =
    let p = err_from_is_err_and c.from_residual.result c.from_residual.ensures.1 in
    rw p.1 (AppendsPrefix-cut _ _ _ _ (Appends-kept _ _ _ _ c.loop-done.invariant.written c.in_err-done.ensures.bytes))

pub returns-in_err-done-clause-short : goal.returns-in_err-done-clause-short
returns-in_err-done-clause-short g c =
    let p = err_from_is_err_and c.from_residual.result c.from_residual.ensures.1 in
    rw p.1 (AppendsShort-cut _ _ _ _ c.loop-done-test.true (Appends-kept _ _ _ _ c.loop-done.invariant.written c.in_err-done.ensures.bytes))

pub loop-done-preserved : goal.loop-done-preserved
loop-done-preserved g c = record {
  within = search rules;
  written = Appends-more _ _ _ _ _ _ c.loop-done.invariant.written (rw take_rest at c.in_ok-done.ensures.bytes);
  none_failed = search rules;
}
