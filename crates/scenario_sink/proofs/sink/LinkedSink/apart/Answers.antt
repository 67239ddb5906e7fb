use Rattle.scenario_sink.proofs.Prelude.{None, sym, ◌∙◌, is_joined}
use Rattle.scenario_sink.proofs.Calls.{parts_one}
use Rattle.scenario_sink.proofs.Turning.{no_link, past_link}
use Rattle.scenario_sink.proofs.sink.LinkedSink.apart.Goals as goal

pub part-requires-clause-joined : goal.part-requires-clause-joined
part-requires-clause-joined c = sym c.is_joined.ensures ∙ c.if-not-is_joined.false

pub returns-then-not-is_joined : goal.returns-then-not-is_joined
returns-then-not-is_joined c source sink history lives = (no_link (is_joined c.args.link history.calls_made) _ (sym (lives.stands.each c.args.link).joined_is ∙ sym c.is_joined.ensures ∙ c.if-not-is_joined.true), lives)

pub returns : goal.returns
returns c source sink history lives = (
  past_link (is_joined c.args.link history.calls_made) None (sym (lives.stands.each c.args.link).joined_is ∙ sym c.is_joined.ensures ∙ c.if-not-is_joined.false),
  search parts_one,
)
