use Rattle.explained_rows.proofs.Telling.{keeps_either}
use Rattle.explained_rows.proofs.rows.ExplainedRows.open.Goals as goal

pub returns-in-Some-clause-lines : goal.returns-in-Some-clause-lines
returns-in-Some-clause-lines g c =
    rw (← c.self.view_is) (keeps_either c.pass.result _ _ _ c.in-Some.ensures.no_line (rw (← c.self.view_is) at c.pass.ensures.lines))
