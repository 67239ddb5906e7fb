use Rattle.delegator_control.proofs.Prelude.{◌++◌, ◌∙◌, ap, sym, on_ok_weaker, status_seen}
use Rattle.delegator_control.proofs.Apart.{one, synced_anew}
use Rattle.delegator_control.proofs.values.note_filled.Goals as goal

pub returns-then-before-after-clause-ok : goal.returns-then-before-after-clause-ok
returns-then-before-after-clause-ok c =
    on_ok_weaker c.put_notice.result (λ put. put ∙ ap (λ notices. c.args.waiting.now.items ++ notices)
    (ap (one c.args.slot) c.in_ok-now.ensures
    ∙ sym (synced_anew c.args.slot (status_seen c.args.before.now) (status_seen c.args.after.now) c.args.filled.now c.if-before-after.true)))
    c.put_notice.ensures.ok
