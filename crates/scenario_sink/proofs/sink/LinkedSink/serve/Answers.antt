use Rattle.scenario_sink.proofs.Prelude.{◌∷◌, slice_get, sym, ◌∙◌, is_none, err_from_is_err_and, is_joined, writes_waiting, serve_line, label_of, refl}
use Rattle.sink_history.specs.Calls as calls
use Rattle.scenario_sink.proofs.Turning.{no_link, some_wait, turned}
use Rattle.scenario_sink.proofs.sink.LinkedSink.serve.Goals as goal

pub returns-then-not-is_joined : goal.returns-then-not-is_joined
returns-then-not-is_joined c history lives = (no_link (is_joined c.args.link history.calls_made) _ (sym (lives.stands.each c.args.link).joined_is ∙ sym c.is_joined.ensures ∙ c.if-not-is_joined.true), lives, refl)

pub returns : goal.returns
returns c history lives =
    let on = sym (lives.stands.each c.args.link).joined_is ∙ sym c.is_joined.ensures ∙ c.if-not-is_joined.false in
    turned c.args.link history (calls.served c.args.link ∷ history.calls_made) (slice_get (writes_waiting c.args.link history.calls_made) 0) (serve_line (label_of c.args.label) history.made c.args.link history.calls_made) c.args.text.now
    c.serve_next.new.text c.serve_next.new.self c.in_ok-waited.waited c.refuse_unless.result on c.refuse_unless.ensures (c.in_ok-waited.ensures history lives on)

pub returns-in_err-waited : goal.returns-in_err-waited
returns-in_err-waited c history lives = let on = sym (lives.stands.each c.args.link).joined_is ∙ sym c.is_joined.ensures ∙ c.if-not-is_joined.false in let p = err_from_is_err_and c.from_residual.result c.from_residual.ensures.1 in rw (p.1, p.2) (some_wait (is_joined c.args.link history.calls_made) (is_none (slice_get (writes_waiting c.args.link history.calls_made) 0)) on (c.in_err-waited.ensures history lives on), tt)
