use Rattle.replay_steps.proofs.Prelude.{arith, refl, OnAir, Air}
use Rattle.replay_steps.proofs.Airing.{air_brings, air_meets, reach_fails}
use Rattle.replay_steps.proofs.machine.Machine.air.Goals as goal

pub returns-in-Err : goal.returns-in-Err
returns-in-Err c boxes version steps stands e =
    reach_fails boxes version c.args.sink steps (Air c.args.sink c.args.lose) c.args.self.now c.in-Err.stop stands
    (air_brings c.args.sink c.args.lose) e (c.in-Err.ensures steps stands)

pub returns-in_default : goal.returns-in_default
returns-in_default c boxes version steps stands e = grind (arith, c.in-Ok.ensures steps stands)

pub returns : goal.returns
returns c boxes version steps stands e =
    let reach = c.in-Ok.ensures steps stands in
    let last = c.in-Some.ensures.last steps stands.sources reach.0 in
    let on : OnAir steps c.args.sink c.in-Some.event c.in-Ok.grid.streams c.in-Ok.grid.subevents =
    record { started = reach.0; streams_are = reach.1.0; subevents_are = reach.1.1; lives = reach.2; some = last.0; event_is = last.1 } in
    air_meets boxes version c.args.sink c.args.lose c.in-Some.event c.in-Ok.grid.streams c.in-Ok.grid.subevents steps c.args.self.now _ stands e on refl refl refl (c.hear_all.ensures steps on stands.sources stands.sinks)
