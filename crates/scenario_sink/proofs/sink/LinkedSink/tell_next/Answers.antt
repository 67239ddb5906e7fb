use Rattle.scenario_sink.proofs.Prelude.{◌∷◌, [], slice_get, refl, ◌∙◌, subst, err_from_is_err_and, delivered, notices_waiting, notice_delivered, label_of, value_line, Takes}
use Rattle.assistant_machine.specs.Calls.{notified}
use Rattle.scenario_sink.proofs.Calls.{delivers, here, none_taken, tells_of}
use Rattle.scenario_sink.proofs.Turning.{its_line, none_there, some_there}
use Rattle.scenario_sink.proofs.sink.LinkedSink.tell_next.Goals as goal

pub returns-in_default : goal.returns-in_default
returns-in_default c history lives on =
    let old = c.args.self.now in
    let answer = c.in_default.ensures.notice ∙ tells_of c.args.link history old.links (here c.args.link history old.delegator old.links lives.stands on) in (
      none_there (delivered history.made.mtu) (slice_get (notices_waiting history.made.setup history.made.mtu c.args.link history.calls_made) 0) answer,
      (
        record {
          stands = none_taken c.args.link history old.delegator old.links _ lives.stands on c.in_default.ensures.notice c.next_notice.ensures.links c.next_notice.ensures.terms;
          source_is = lives.source_is;
        },
        refl,
      ),
    )

pub returns : goal.returns
returns c history lives on =
    let old = c.args.self.now in
    let answer = c.in-Some.ensures.notice ∙ tells_of c.args.link history old.links (here c.args.link history old.delegator old.links lives.stands on) in (
      some_there (delivered history.made.mtu) (slice_get (notices_waiting history.made.setup history.made.mtu c.args.link history.calls_made) 0) c.in-Some.notice answer,
      (
        record {
          stands = delivers c.links_law.ensures.apart c.args.link history old.delegator old.links c.next_notice.new.self _ c.in-Some.notice lives.stands on c.in-Some.ensures.notice
              c.next_notice.ensures.links c.next_notice.ensures.terms
              (λ before is. subst (λ octets. Takes (notified c.in-Some.notice.slot octets ∷ []) c.args.link before c.next_notice.new.self c.deliver.new.links) c.as_slice.ensures
              (c.in_ok-deliver.ensures.takes before is));
          source_is = lives.source_is;
        },
        its_line (value_line (label_of c.args.label).notice (label_of c.args.label).numbers) (notice_delivered history.made c.args.link history.calls_made) c.in-Some.notice c.args.text.now
            c.put_notice.new.text answer c.in_ok-put_notice.ensures,
      ),
    )

pub returns-in_err-deliver : goal.returns-in_err-deliver
returns-in_err-deliver c history lives on =
    let old = c.args.self.now in
    let p = err_from_is_err_and c.from_residual.result c.from_residual.ensures.1 in
    rw p.1
    (some_there (delivered history.made.mtu) (slice_get (notices_waiting history.made.setup history.made.mtu c.args.link history.calls_made) 0) c.in-Some.notice
    (c.in-Some.ensures.notice ∙ tells_of c.args.link history old.links (here c.args.link history old.delegator old.links lives.stands on)))

pub returns-in_err-put_notice : goal.returns-in_err-put_notice
returns-in_err-put_notice c history lives on =
    let old = c.args.self.now in
    let p = err_from_is_err_and c.from_residual-in_err-put_notice.result c.from_residual-in_err-put_notice.ensures.1 in
    rw p.1
    (some_there (delivered history.made.mtu) (slice_get (notices_waiting history.made.setup history.made.mtu c.args.link history.calls_made) 0) c.in-Some.notice
    (c.in-Some.ensures.notice ∙ tells_of c.args.link history old.links (here c.args.link history old.delegator old.links lives.stands on)))
