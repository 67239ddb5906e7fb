use Rattle.replay_steps.proofs.Prelude.{arith, refl, length, histories_of, Inject}
use Rattle.replay_steps.proofs.Airing.{inject_brings, inject_meets, quiet_tells, reach_fails}
use Rattle.replay_steps.proofs.machine.Machine.inject.Goals as goal

pub returns-in-Err : goal.returns-in-Err
returns-in-Err c starts version steps stands e =
    let made = Inject c.args.sink c.args.place.back c.args.place.bis c.args.place.subevent c.args.octets.now in
    quiet_tells starts steps made c.args.self.now c.args.text.now c.in-Err.stop refl (reach_fails (length starts) version c.args.sink steps made c.args.self.now c.in-Err.stop stands
    (inject_brings c.args.sink c.args.place.back c.args.place.bis c.args.place.subevent c.args.octets.now) e (c.in-Err.ensures steps stands))

pub returns-in-Err-heard_at : goal.returns-in-Err-heard_at
returns-in-Err-heard_at c starts version steps stands e = grind (arith, c.in-Ok.ensures steps stands)

pub returns-in_default : goal.returns-in_default
returns-in_default c starts version steps stands e =
    grind (arith, c.in-Ok.ensures steps stands, c.in_default.ensures (histories_of steps) stands.sinks)

pub returns-in-Ok-put_heard : goal.returns-in-Ok-put_heard
returns-in-Ok-put_heard c starts version steps stands e =
    let reach = c.in-Ok.ensures steps stands in
    inject_meets starts version c.args.sink c.chosen-source.result c.event_back-event.result c.args.place.back c.args.place.bis c.args.place.subevent c.args.octets.now steps
    c.args.self.now _ c.in-Some.hearing c.in-Ok.field-0
    c.args.text.now c.put_heard.new.text stands e reach (c.in-Ok-heard_at.ensures.ok steps stands.sources).0 (c.chosen-source.ensures.source steps stands.sources)
    (c.event_back-event.ensures.event steps stands.sources reach.0) refl refl refl (c.in-Some.ensures (histories_of steps) stands.sinks) c.in-Ok-put_heard.ensures.ok
