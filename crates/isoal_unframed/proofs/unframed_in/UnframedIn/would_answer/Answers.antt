use Rattle.isoal_unframed.proofs.Prelude.{sym, ◌∙◌}
use Rattle.isoal_unframed.proofs.unframed_in.UnframedIn.would_answer.Goals as goal

pub returns-in-Ok : goal.returns-in-Ok
returns-in-Ok c = rw (← c.self.view_is) (c.answer_at.ensures ∙ sym (c.in-Ok.ensures.taken _))

pub returns-in-Err : goal.returns-in-Err
returns-in-Err c = rw (← c.self.view_is) (sym (c.in-Err.ensures.answer _))
