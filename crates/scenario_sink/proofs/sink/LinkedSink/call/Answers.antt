use Rattle.scenario_sink.proofs.Prelude.{◌∷◌, ◌<◌, None, ap, length, option_or, drained, drain_lines, serve_line, tell_line, no_notice, plain}
use Rattle.sink_history.specs.Calls as calls
use Rattle.sink_history.specs.Refusals.{no_write}
use Rattle.scenario_sink.specs.SinkCalls.{call_step}
use Rattle.scenario_sink.proofs.Arms.{makes_so}
use Rattle.scenario_sink.proofs.Histories.{first_joined}
use Rattle.scenario_sink.proofs.Turning.{joined_makes}
use Rattle.scenario_sink.proofs.sink.LinkedSink.call.Goals as goal

pub returns-in-Serve : goal.returns-in-Serve
returns-in-Serve c source history lives =
    makes_so source (call_step c.args.call c.args.sink) _ history c.args.text.now c.serve.new.text c.serve.new.self c.serve.result (ap (λ call. call_step call c.args.sink) c.in-Serve.is)
    (joined_makes 0 (option_or (no_write 0 history.calls_made) None) (Unit {0}) (serve_line (plain c.args.sink) history.made 0 history.calls_made) (calls.served 0 ∷ history.calls_made) history c.args.text.now c.serve.new.text c.serve.new.self
    c.serve.result (first_joined history c.args.self.now lives) (c.serve.ensures history lives))

pub returns-in-Tell : goal.returns-in-Tell
returns-in-Tell c source history lives =
    makes_so source (call_step c.args.call c.args.sink) _ history c.args.text.now c.tell.new.text c.tell.new.self c.tell.result (ap (λ call. call_step call c.args.sink) c.in-Tell.is)
    (joined_makes 0 (option_or (no_notice history.made 0 history.calls_made) None) (Unit {0}) (tell_line (plain c.args.sink) history.made 0 history.calls_made) (calls.notified 0 ∷ history.calls_made) history c.args.text.now c.tell.new.text c.tell.new.self
    c.tell.result (first_joined history c.args.self.now lives) (c.tell.ensures history lives))

pub returns-in-Drain : goal.returns-in-Drain
returns-in-Drain c source history lives =
    makes_so source (call_step c.args.call c.args.sink) _ history c.args.text.now c.drain.new.text c.drain.new.self c.drain.result (ap (λ call. call_step call c.args.sink) c.in-Drain.is)
    (joined_makes 0 None (0 < length (drain_lines (plain c.args.sink) history.made 0 history.calls_made)) (drain_lines (plain c.args.sink) history.made 0 history.calls_made) (drained history.made.setup history.made.mtu 0 history.calls_made) history c.args.text.now c.drain.new.text c.drain.new.self
    c.drain.result (first_joined history c.args.self.now lives) (c.drain.ensures history lives))

pub returns-in-Lose : goal.returns-in-Lose
returns-in-Lose c source history lives =
    makes_so source (call_step c.args.call c.args.sink) _ history c.args.text.now c.lose.new.text c.lose.new.self c.lose.result (ap (λ call. call_step call c.args.sink) c.in-Lose.is) (c.lose.ensures source history lives)
