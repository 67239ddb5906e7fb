use Rattle.replay_steps.proofs.Prelude.{arith, refl, histories_of, Hear}
use Rattle.replay_steps.proofs.Airing.{hear_brings, hear_meets, reach_fails}
use Rattle.replay_steps.proofs.machine.Machine.hear.Goals as goal

pub returns-in-Err : goal.returns-in-Err
returns-in-Err c boxes version steps stands e =
    reach_fails boxes version c.args.sink steps
    (Hear c.args.sink c.args.place.back c.args.place.bis c.args.place.subevent) c.args.self.now c.in-Err.stop stands
    (hear_brings c.args.sink c.args.place.back c.args.place.bis c.args.place.subevent) e (c.in-Err.ensures steps stands)

pub returns-in-Ok-heard_at : goal.returns-in-Ok-heard_at
returns-in-Ok-heard_at c boxes version steps stands e =
    let reach = c.in-Ok.ensures steps stands in
    hear_meets boxes version c.args.sink c.chosen-source.result c.event_back-event.result c.args.place.back c.args.place.bis c.args.place.subevent c.in-Ok-heard_at.pdu.now steps
    c.args.self.now _ c.hear.result
    c.in-Ok.field-0 stands e reach (c.in-Ok-heard_at.ensures.ok steps stands.sources) (c.chosen-source.ensures.source steps stands.sources)
    (c.event_back-event.ensures.event steps stands.sources reach.0) refl refl refl (c.hear.ensures (histories_of steps) stands.sinks)

pub returns-in-Err-heard_at : goal.returns-in-Err-heard_at
returns-in-Err-heard_at c boxes version steps stands e = grind (arith, c.in-Ok.ensures steps stands)
