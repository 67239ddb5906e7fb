use Rattle.delegator_control.proofs.Prelude.{◌++◌, ◌∙◌, ap, sym, on_ok_weaker, encoding, received, status_seen}
use Rattle.delegator_control.proofs.Apart.{told}
use Rattle.delegator_control.proofs.values.note_refilled.Goals as goal

pub returns-then-ends_otherwise-clause-ok : goal.returns-then-ends_otherwise-clause-ok
returns-then-ends_otherwise-clause-ok c =
    on_ok_weaker c.put_notice.result (λ put. put ∙ ap (λ notices. c.args.waiting.now.items ++ notices)
    (sym (told c.args.slot (encoding (received (status_seen c.args.before.now) c.args.filled.now)) c.args.now
    (c.ends_otherwise.ensures c.if-ends_otherwise.true (status_seen c.args.before.now))))) c.put_notice.ensures.ok
