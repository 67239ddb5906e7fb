use Rattle.scenario_sink.proofs.Prelude.{err_from_is_err_and, is_joined, None, sym, ◌∙◌}
use Rattle.scenario_sink.proofs.Turning.{no_link, past_link}
use Rattle.scenario_sink.proofs.sink.LinkedSink.write.Goals as goal

pub returns-then-not-is_joined : goal.returns-then-not-is_joined
returns-then-not-is_joined c history lives = (no_link (is_joined c.args.link history.calls_made) _ (sym (lives.stands.each c.args.link).joined_is ∙ sym c.is_joined.ensures ∙ c.if-not-is_joined.true), lives)

pub returns : goal.returns
returns c history lives = let on = sym (lives.stands.each c.args.link).joined_is ∙ sym c.is_joined.ensures ∙ c.if-not-is_joined.false in (past_link (is_joined c.args.link history.calls_made) None on, c.in_ok-put_write.ensures history lives on)

pub returns-in_err-put_write : goal.returns-in_err-put_write
returns-in_err-put_write c history lives = let p = err_from_is_err_and c.from_residual.result c.from_residual.ensures.1 in rw (p.1, p.2) (past_link (is_joined c.args.link history.calls_made) None (sym (lives.stands.each c.args.link).joined_is ∙ sym c.is_joined.ensures ∙ c.if-not-is_joined.false), tt)
