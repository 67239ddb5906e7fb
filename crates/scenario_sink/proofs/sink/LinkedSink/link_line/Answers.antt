use Rattle.scenario_sink.proofs.Prelude.{◌∷◌, ◌<◌, None, arith, length, option_or, drained, drain_lines, read_line, serve_line, tell_line, no_notice, plain}
use Rattle.sink_history.specs.Calls as calls
use Rattle.sink_history.specs.Refusals.{no_read, no_write}
use Rattle.scenario_sink.proofs.Arms.{makes_so}
use Rattle.scenario_sink.proofs.Histories.{first_joined}
use Rattle.scenario_sink.proofs.Others.{no_link_line}
use Rattle.scenario_sink.proofs.Turning.{joined_makes}
use Rattle.scenario_sink.proofs.sink.LinkedSink.link_line.Goals as goal

pub returns-in-Serve : goal.returns-in-Serve
returns-in-Serve c source history lives =
    makes_so source c.args.step _ history c.args.text.now c.serve.new.text c.serve.new.self c.serve.result c.in-Serve.is
    (joined_makes 0 (option_or (no_write 0 history.calls_made) None) (Unit {0}) (serve_line (plain c.in-Serve.sink) history.made 0 history.calls_made) (calls.served 0 ∷ history.calls_made) history c.args.text.now c.serve.new.text c.serve.new.self
    c.serve.result (first_joined history c.args.self.now lives) (c.serve.ensures history lives))

pub returns-in-Tell : goal.returns-in-Tell
returns-in-Tell c source history lives =
    makes_so source c.args.step _ history c.args.text.now c.tell.new.text c.tell.new.self c.tell.result c.in-Tell.is
    (joined_makes 0 (option_or (no_notice history.made 0 history.calls_made) None) (Unit {0}) (tell_line (plain c.in-Tell.sink) history.made 0 history.calls_made) (calls.notified 0 ∷ history.calls_made) history c.args.text.now c.tell.new.text c.tell.new.self
    c.tell.result (first_joined history c.args.self.now lives) (c.tell.ensures history lives))

pub returns-in-Read : goal.returns-in-Read
returns-in-Read c source history lives =
    makes_so source c.args.step _ history c.args.text.now c.read.new.text c.read.new.self c.read.result c.in-Read.is
    (joined_makes 0 (option_or (no_read history.made 0 history.calls_made) None) (Unit {0}) (read_line (plain c.in-Read.sink) history.made 0 history.calls_made) (calls.read 0 ∷ history.calls_made) history c.args.text.now c.read.new.text c.read.new.self
    c.read.result (first_joined history c.args.self.now lives) (c.read.ensures history lives))

pub returns-in-Drain : goal.returns-in-Drain
returns-in-Drain c source history lives =
    makes_so source c.args.step _ history c.args.text.now c.drain.new.text c.drain.new.self c.drain.result c.in-Drain.is
    (joined_makes 0 None (0 < length (drain_lines (plain c.in-Drain.sink) history.made 0 history.calls_made)) (drain_lines (plain c.in-Drain.sink) history.made 0 history.calls_made) (drained history.made.setup history.made.mtu 0 history.calls_made) history c.args.text.now c.drain.new.text c.drain.new.self
    c.drain.result (first_joined history c.args.self.now lives) (c.drain.ensures history lives))

pub returns-in-AServe : goal.returns-in-AServe
returns-in-AServe c source history lives = makes_so source c.args.step _ history c.args.text.now c.serve-in-AServe.new.text c.serve-in-AServe.new.self c.serve-in-AServe.result c.in-AServe.is (c.serve-in-AServe.ensures history lives)

pub returns-in-ATell : goal.returns-in-ATell
returns-in-ATell c source history lives = makes_so source c.args.step _ history c.args.text.now c.tell-in-ATell.new.text c.tell-in-ATell.new.self c.tell-in-ATell.result c.in-ATell.is (c.tell-in-ATell.ensures history lives)

pub returns-in-ARead : goal.returns-in-ARead
returns-in-ARead c source history lives = makes_so source c.args.step _ history c.args.text.now c.read-in-ARead.new.text c.read-in-ARead.new.self c.read-in-ARead.result c.in-ARead.is (c.read-in-ARead.ensures history lives)

pub returns-in-ADrain : goal.returns-in-ADrain
returns-in-ADrain c source history lives = makes_so source c.args.step _ history c.args.text.now c.drain-in-ADrain.new.text c.drain-in-ADrain.new.self c.drain-in-ADrain.result c.in-ADrain.is (c.drain-in-ADrain.ensures history lives)

pub returns-in-AShow : goal.returns-in-AShow
returns-in-AShow c source history lives = makes_so source c.args.step _ history c.args.text.now c.show_on.new.text c.show_on.new.self c.show_on.result c.in-AShow.is (c.show_on.ensures history lives)

pub unreachable-requires : goal.unreachable-requires
unreachable-requires c = no_link_line c.args.step (grind arith) c.requires
