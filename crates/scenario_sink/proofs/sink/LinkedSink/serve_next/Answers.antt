use Rattle.scenario_sink.proofs.Prelude.{◌∷◌, Some, option_map, refl, sym, ◌∙◌, ap, slice_get, subst, is_none, err_from_is_err_and, written, reply_of, control, StandsFor, served, replied, snapshot_in, label_of, reply_line}
use Rattle.scenario_sink.proofs.Calls.{Here, first_write, here, its_assistant, kept, no_write, serves}
use Rattle.scenario_sink.proofs.Histories.{served_stays}
use Rattle.scenario_sink.proofs.Turning.{its_line}
use Rattle.scenario_sink.proofs.Untold.{its_snapshot}
use Rattle.scenario_sink.proofs.sink.LinkedSink.serve_next.Goals as goal

pub returns-in_default : goal.returns-in_default
returns-in_default c history lives on =
    let old = c.args.self.now in
    let h : Here c.args.link history old.links = here c.args.link history old.delegator old.links lives.stands on in
    let none = c.in_default.ensures.none h.on.assistant (its_assistant c.args.link history old.links h) in (
      ap (λ writes. is_none (slice_get writes 0)) (no_write c.args.link history old.links h none.0),
      (record { stands = kept c.args.link history old.delegator old.links _ lives.stands on none.1; source_is = lives.source_is }, refl),
    )

pub returns : goal.returns
returns c history lives on =
    let old = c.args.self.now in
    let took = lives.stands.took in
    let h : Here c.args.link history old.links = here c.args.link history old.delegator old.links lives.stands on in
    let some = c.in-Some.ensures.some h.on.assistant (its_assistant c.args.link history old.links h) in
    let first = first_write c.args.link history old.links h c.in-Some.write some.0 in
    let snapshot = its_snapshot history old.delegator old.links took in
    let answer = ap Some (c.in_ok-reply.ensures.answer history.made.setup took.taken took.stands ∙ (λ i. reply_of (snapshot i) (c.as_slice.ensures i)))
    ∙ ap (option_map (reply_of (snapshot_in history.made history.calls_made))) (sym first) in (
      ap is_none first,
      (
        record {
          stands = served_stays c.args.link history _ _ (c.in_ok-gather.ensures.stands (served c.args.link) history
              (serves c.args.link c.in-Some.write history old.delegator _ old.links _ lives.stands on some.0 some.1
              (subst (λ write. StandsFor history.made.setup (control (written write) ∷ took.taken) c.serve.new.self) c.as_slice.ensures
              (c.in_ok-reply.ensures.stands history.made.setup took.taken took.stands)) c.serve.ensures.settings));
          source_is = c.gather.ensures.source ∙ lives.source_is;
        },
        its_line (reply_line (label_of c.args.label)) (replied history.made c.args.link history.calls_made) c.in_ok-reply.reply c.args.text.now c.put_reply.new.text answer
            c.in_ok-put_reply.ensures,
      ),
    )

pub returns-in_err-reply : goal.returns-in_err-reply
returns-in_err-reply c history lives on =
    let old = c.args.self.now in
    let h : Here c.args.link history old.links = here c.args.link history old.delegator old.links lives.stands on in
    let some = c.in-Some.ensures.some h.on.assistant (its_assistant c.args.link history old.links h) in
    let p = err_from_is_err_and c.from_residual.result c.from_residual.ensures.1 in
    rw p.1 (ap is_none (first_write c.args.link history old.links h c.in-Some.write some.0))

pub returns-in_err-gather : goal.returns-in_err-gather
returns-in_err-gather c history lives on =
    let old = c.args.self.now in
    let h : Here c.args.link history old.links = here c.args.link history old.delegator old.links lives.stands on in
    let some = c.in-Some.ensures.some h.on.assistant (its_assistant c.args.link history old.links h) in
    let p = err_from_is_err_and c.from_residual-in_err-gather.result c.from_residual-in_err-gather.ensures.1 in
    rw p.1 (ap is_none (first_write c.args.link history old.links h c.in-Some.write some.0))

pub returns-in_err-put_reply : goal.returns-in_err-put_reply
returns-in_err-put_reply c history lives on =
    let old = c.args.self.now in
    let h : Here c.args.link history old.links = here c.args.link history old.delegator old.links lives.stands on in
    let some = c.in-Some.ensures.some h.on.assistant (its_assistant c.args.link history old.links h) in
    let p = err_from_is_err_and c.from_residual-in_err-put_reply.result c.from_residual-in_err-put_reply.ensures.1 in
    rw p.1 (ap is_none (first_write c.args.link history old.links h c.in-Some.write some.0))
