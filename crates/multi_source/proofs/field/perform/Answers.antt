use Rattle.multi_source.proofs.Prelude.{subst, ap, Some, Sending, Begun}
use Rattle.multi_source.proofs.Starting.{performed, tells}
use Rattle.multi_source.proofs.field.perform.Goals as goal

pub returns-in-Ok-clause-ok : goal.returns-in-Ok-clause-ok
returns-in-Ok-clause-ok c = λ setup calls sending.
    performed setup calls c.in-Some.source c.event.new.self c.in-Some-since.begun c.put.new.self c.in-Ok.sent.pdus
    c.event.ensures.checked c.event.ensures.same.setup (ap (λ (b : Begun). b.air) c.put.ensures)
    (λ calls stands. (c.in-Ok.ensures.permitted.permitted calls stands, c.in-Ok.ensures.performed.stands calls stands)) c.in-Ok.ensures.performed.sends
    (subst (λ since. Sending setup calls (Some c.in-Some.source) since) c.in-Some-since.is (subst (λ place. Sending setup calls place c.args.since.now) c.in-Some.is sending))

pub returns-in-Ok-clause-stale : goal.returns-in-Ok-clause-stale
returns-in-Ok-clause-stale c = λ setup calls airs sending are.
    tells setup calls airs c.in-Some.source c.args.since.now c.in-Ok.sent.stale c.in-Ok.ensures.performed.told (subst (λ place. Sending setup calls place c.args.since.now) c.in-Some.is sending) are
