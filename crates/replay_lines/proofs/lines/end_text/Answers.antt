use Rattle.replay_lines.proofs.Prelude.{◌∙◌, sym}
use Rattle.replay_lines.proofs.Endings.{ends_done, ends_no_end}
use Rattle.replay_lines.proofs.lines.end_text.Goals as goal

pub returns-then-is_over-clause-ends : goal.returns-then-is_over-clause-ends
returns-then-is_over-clause-ends g c =
    λ starts lines left left' kept accounts e t r.
    ends_done t r (sym (c.is_over.ensures starts lines accounts r.stands) ∙ c.if-is_over.true)

pub returns-clause-ends : goal.returns-clause-ends
returns-clause-ends g c =
    λ starts lines left left' kept accounts e t r.
    ends_no_end e t r (sym (c.is_over.ensures starts lines accounts r.stands) ∙ c.if-is_over.false)
    (g.K.ByteSink.contents c.refuse.new.sink) c.refuse.result c.refuse.ensures.refuses
