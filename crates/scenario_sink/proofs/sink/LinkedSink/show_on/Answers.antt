use Rattle.scenario_sink.proofs.Prelude.{err_from_is_err_and, is_joined, arith, None, refl, sym, ◌∙◌}
use Rattle.scenario_sink.proofs.Histories.{lives_stayed}
use Rattle.scenario_sink.proofs.Turning.{no_link, past_link}
use Rattle.scenario_sink.proofs.sink.LinkedSink.show_on.Goals as goal

pub returns-then-not-is_joined : goal.returns-then-not-is_joined
returns-then-not-is_joined c history lives = (no_link (is_joined c.args.link history.calls_made) _ (sym (lives.stands.each c.args.link).joined_is ∙ sym c.is_joined.ensures ∙ c.if-not-is_joined.true), lives, refl)

pub returns : goal.returns
returns c history lives = grind (arith, past_link, is_joined, lives_stayed)

pub returns-in_err-show_views : goal.returns-in_err-show_views
returns-in_err-show_views c history lives = let p = err_from_is_err_and c.from_residual.result c.from_residual.ensures.1 in rw (p.1, p.2) (past_link (is_joined c.args.link history.calls_made) None (sym (lives.stands.each c.args.link).joined_is ∙ sym c.is_joined.ensures ∙ c.if-not-is_joined.false), tt)
