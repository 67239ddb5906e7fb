use Rattle.explained_rows.proofs.Prelude.{err_from_is_err_and}
use Rattle.explained_rows.proofs.Telling.{keeps_then, keeps_write}
use Rattle.explained_rows.proofs.rows.ExplainedRows.write_row.Goals as goal

pub returns-clause-bytes : goal.returns-clause-bytes
returns-clause-bytes g c = keeps_write _ _ _ _ _ c.open.ensures.kept c.put.ensures.bytes

pub returns-clause-lines : goal.returns-clause-lines
returns-clause-lines g c = keeps_then _ _ _ c.open.ensures.lines c.put.ensures.lines

pub returns-in_err-open-clause-bytes : goal.returns-in_err-open-clause-bytes
returns-in_err-open-clause-bytes g c =
    let p = err_from_is_err_and c.from_residual.result c.from_residual.ensures.1 in
    rw p.1 c.open.ensures.kept
