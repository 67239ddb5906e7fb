use Rattle.scenario_sink.proofs.Prelude.{◌∙◌, List, length, arith, err_from_is_err_and, Call, writes_waiting, served_out, notified_out, notices_waiting, reads_waiting, Lines, read_lines, serve_lines, tell_lines, label_of, stayed}
use Rattle.scenario_sink.proofs.Draining.{all_joined, drain_goes, drain_length, reads_some, serves_some, serving, telling, tells_some}
use Rattle.scenario_sink.proofs.sink.LinkedSink.drain_link.Goals as goal

pub returns-clause-goes : goal.returns-clause-goes
returns-clause-goes c history lives on =
    let link = c.args.link in
    let label = label_of c.args.label in
    let served : List Call = served_out link history.calls_made in
    let told : List Call = notified_out history.made.setup history.made.mtu link served in
    let on_served = all_joined history.made link (serving label history.made link) (length (writes_waiting link history.calls_made)) history.calls_made ∙ on in
    let serves = c.in_ok-serve_all.ensures.goes history lives on in
    let on_told = all_joined history.made link (telling label history.made link) (length (notices_waiting history.made.setup history.made.mtu link served)) served ∙ on_served in
    let tells = c.in_ok-tell_all.ensures.goes (stayed served history) serves.0 on_served in
    drain_goes history link label c.args.text.now c.serve_all.new.text c.tell_all.new.text c.read_all.new.text c.serve_all.new.self c.tell_all.new.self c.read_all.new.self serves tells
    (c.in_ok-read_all.ensures.goes (stayed told (stayed served history)) tells.0 on_told)

pub returns-in_err-serve_all-clause-memory : goal.returns-in_err-serve_all-clause-memory
returns-in_err-serve_all-clause-memory c history lives on =
    let link = c.args.link in
    let label = label_of c.args.label in
    let served : List Call = served_out link history.calls_made in
    let told : List Call = notified_out history.made.setup history.made.mtu link served in
    let serve_them : Lines = serve_lines label history.made link (length (writes_waiting link history.calls_made)) history.calls_made in
    let tell_them : Lines = tell_lines label history.made link (length (notices_waiting history.made.setup history.made.mtu link served)) served in
    let read_them : Lines = read_lines label history.made link (length (reads_waiting history.made.setup history.made.mtu link told)) told in
    let p = err_from_is_err_and c.from_residual.result c.from_residual.ensures.1 in
    let some = serves_some label history.made link history.calls_made (c.in_err-serve_all.ensures.memory history lives on) in
    rw p.1 (omega (arith, drain_length serve_them tell_them read_them, some))

pub returns-in_err-tell_all-clause-memory : goal.returns-in_err-tell_all-clause-memory
returns-in_err-tell_all-clause-memory c history lives on =
    let link = c.args.link in
    let label = label_of c.args.label in
    let served : List Call = served_out link history.calls_made in
    let told : List Call = notified_out history.made.setup history.made.mtu link served in
    let serve_them : Lines = serve_lines label history.made link (length (writes_waiting link history.calls_made)) history.calls_made in
    let tell_them : Lines = tell_lines label history.made link (length (notices_waiting history.made.setup history.made.mtu link served)) served in
    let read_them : Lines = read_lines label history.made link (length (reads_waiting history.made.setup history.made.mtu link told)) told in
    let on_served = all_joined history.made link (serving label history.made link) (length (writes_waiting link history.calls_made)) history.calls_made ∙ on in
    let serves = c.in_ok-serve_all.ensures.goes history lives on in
    let p = err_from_is_err_and c.from_residual-in_err-tell_all.result c.from_residual-in_err-tell_all.ensures.1 in
    let some = tells_some label history.made link served (c.in_err-tell_all.ensures.memory (stayed served history) serves.0 on_served) in
    rw p.1 (omega (arith, drain_length serve_them tell_them read_them, some))

pub returns-in_err-read_all-clause-memory : goal.returns-in_err-read_all-clause-memory
returns-in_err-read_all-clause-memory c history lives on =
    let link = c.args.link in
    let label = label_of c.args.label in
    let served : List Call = served_out link history.calls_made in
    let told : List Call = notified_out history.made.setup history.made.mtu link served in
    let serve_them : Lines = serve_lines label history.made link (length (writes_waiting link history.calls_made)) history.calls_made in
    let tell_them : Lines = tell_lines label history.made link (length (notices_waiting history.made.setup history.made.mtu link served)) served in
    let read_them : Lines = read_lines label history.made link (length (reads_waiting history.made.setup history.made.mtu link told)) told in
    let on_served = all_joined history.made link (serving label history.made link) (length (writes_waiting link history.calls_made)) history.calls_made ∙ on in
    let serves = c.in_ok-serve_all.ensures.goes history lives on in
    let on_told = all_joined history.made link (telling label history.made link) (length (notices_waiting history.made.setup history.made.mtu link served)) served ∙ on_served in
    let tells = c.in_ok-tell_all.ensures.goes (stayed served history) serves.0 on_served in
    let p = err_from_is_err_and c.from_residual-in_err-read_all.result c.from_residual-in_err-read_all.ensures.1 in
    let some = reads_some label history.made link told (c.in_err-read_all.ensures.memory (stayed told (stayed served history)) tells.0 on_told) in
    rw p.1 (omega (arith, drain_length serve_them tell_them read_them, some))
