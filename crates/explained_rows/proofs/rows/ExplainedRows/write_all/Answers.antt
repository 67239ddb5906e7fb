use Rattle.explained_rows.proofs.Prelude.{rules, err_from_is_err_and, take_rest}
use Rattle.explained_rows.proofs.Telling.{keeps_then, written_more, written_short}
use Rattle.explained_rows.proofs.rows.ExplainedRows.write_all.Goals as goal

pub loop-done-preserved : goal.loop-done-preserved
loop-done-preserved g c = record {
  within = search rules;
  written = written_more _ _ _ _ _ _ c.loop-done.invariant.written (rw take_rest at c.in_ok-done.ensures.bytes);
  lines = keeps_then _ _ _ c.loop-done.invariant.lines c.write_row.ensures.lines;
  none_failed = search rules;
}

pub returns-in_err-done-clause-short : goal.returns-in_err-done-clause-short
returns-in_err-done-clause-short g c =
    let p = err_from_is_err_and c.from_residual.result c.from_residual.ensures.1 in
    rw p.1 (written_short _ _ _ _ _ c.loop-done-test.true c.loop-done.invariant.written c.in_err-done.ensures.bytes)

pub returns-in_err-done-clause-lines : goal.returns-in_err-done-clause-lines
returns-in_err-done-clause-lines g c = keeps_then _ _ _ c.loop-done.invariant.lines c.write_row.ensures.lines
