use Rattle.scenario_sink.proofs.Prelude.{err_from_is_err_and, is_joined, None, refl, sym, ◌∙◌}
use Rattle.scenario_sink.proofs.Turning.{no_link, past_link}
use Rattle.scenario_sink.proofs.sink.LinkedSink.drain.Goals as goal

pub returns-then-not-is_joined : goal.returns-then-not-is_joined
returns-then-not-is_joined c history lives = (no_link (is_joined c.args.link history.calls_made) _ (sym (lives.stands.each c.args.link).joined_is ∙ sym c.is_joined.ensures ∙ c.if-not-is_joined.true), lives, refl)

pub returns : goal.returns
returns c history lives =
    let on = sym (lives.stands.each c.args.link).joined_is ∙ sym c.is_joined.ensures ∙ c.if-not-is_joined.false in let goes = c.in_ok-drain_link.ensures.goes history lives on in (past_link (is_joined c.args.link history.calls_made) None on, goes.0, goes.1)

pub returns-in_err-drain_link : goal.returns-in_err-drain_link
returns-in_err-drain_link c history lives = let on = sym (lives.stands.each c.args.link).joined_is ∙ sym c.is_joined.ensures ∙ c.if-not-is_joined.false in let p = err_from_is_err_and c.from_residual.result c.from_residual.ensures.1 in rw (p.1, p.2) (past_link (is_joined c.args.link history.calls_made) None on, c.in_err-drain_link.ensures.memory history lives on)
