use Rattle.isoal_unframed.proofs.Prelude.{ap, sym, ◌∙◌, stay_of}
use Rattle.isoal_unframed.proofs.unframed_in.UnframedIn.take_in.Goals as goal

pub returns-in-Ok-clause-answer : goal.returns-in-Ok-clause-answer
returns-in-Ok-clause-answer c = rw (← c.self.view_is) (c.keep.ensures.answer ∙ sym (c.in-Ok.ensures.taken _))

pub returns-in-Ok-clause-step : goal.returns-in-Ok-clause-step
returns-in-Ok-clause-step c = rw (← c.self.view_is, c.in-Ok.ensures.taken, c.in-Ok.ensures.ok, ← c.keep.ensures.answer)
    (ap (λ k. record { stay = stay_of c.self.inside.stream; event = c.self.inside.current.event; kept = k }) c.keep.ensures.step)

pub returns-in-Err-clause-answer : goal.returns-in-Err-clause-answer
returns-in-Err-clause-answer c = rw (← c.self.view_is) (sym (c.in-Err.ensures.answer _))

pub returns-in-Err-clause-step : goal.returns-in-Err-clause-step
returns-in-Err-clause-step c = rw (← c.self.view_is, c.in-Err.ensures.answer)
    (ap (λ k. record { stay = stay_of c.self.inside.stream; event = c.self.inside.current.event; kept = k }) (sym (c.in-Err.ensures.nothing _ _ _)))
