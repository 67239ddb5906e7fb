use Rattle.explained_rows.proofs.Prelude.{refl}
use Rattle.explained_rows.proofs.Telling.{keeps_either}
use Rattle.explained_rows.proofs.rows.ExplainedRows.tell.Goals as goal

pub returns-clause-lines : goal.returns-clause-lines
returns-clause-lines g c =
    rw (← c.self.view_is) (keeps_either c.pass.result _ _ _ (c.if-not-is_beside.ensures.no_line refl) (rw (← c.self.view_is) at c.pass.ensures.lines))
