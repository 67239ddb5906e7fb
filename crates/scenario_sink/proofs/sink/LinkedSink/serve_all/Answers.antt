use Rattle.scenario_sink.proofs.Prelude.{arith, err_from_is_err_and, label_of, stayed}
use Rattle.scenario_sink.proofs.Draining.{all_done, none_yet, one_again, serving, some_waits}
use Rattle.scenario_sink.proofs.sink.LinkedSink.serve_all.Goals as goal

pub writes-init : goal.writes-init
writes-init c history lives on = none_yet history c.args.link (serving (label_of c.args.label) history.made c.args.link) c.args.text.now c.args.self.now lives

pub writes-preserved : goal.writes-preserved
writes-preserved c history lives on =
    one_again history c.args.link (serving (label_of c.args.label) history.made c.args.link) c.writes.counter c.args.text.now c.writes.text c.serve_next.new.text c.writes.self c.serve_next.new.self
    c.in_ok-waited.waited on (c.writes.invariant history lives on) c.if-not-waited.false (λ calls_made. c.in_ok-waited.ensures (stayed calls_made history))

pub returns-then-not-waited-clause-goes : goal.returns-then-not-waited-clause-goes
returns-then-not-waited-clause-goes c history lives on =
    all_done history c.args.link (serving (label_of c.args.label) history.made c.args.link) c.writes.counter c.args.text.now c.writes.text c.serve_next.new.text c.writes.self c.serve_next.new.self
    c.in_ok-waited.waited on (c.writes.invariant history lives on) c.if-not-waited.true (λ calls_made. c.in_ok-waited.ensures (stayed calls_made history))

pub returns-in_err-waited-clause-memory : goal.returns-in_err-waited-clause-memory
returns-in_err-waited-clause-memory c history lives on =
    let p = err_from_is_err_and c.from_residual.result c.from_residual.ensures.1 in
    rw p.1
    (some_waits history c.args.link (serving (label_of c.args.label) history.made c.args.link) c.writes.counter c.args.text.now c.writes.text c.writes.self on (c.writes.invariant history lives on)
    (λ calls_made. c.in_err-waited.ensures (stayed calls_made history)))

pub returns-clause-memory : goal.returns-clause-memory
returns-clause-memory c history lives on =
    let r = c.writes.invariant history lives on in
    omega (arith, r.turned, r.within, c.writes-test.false)
