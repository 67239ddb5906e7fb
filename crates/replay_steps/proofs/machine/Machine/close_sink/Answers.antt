use Rattle.replay_steps.proofs.Prelude.{Ok, map, relay_of, closing_of, handed_all, with_close_at, handed_of, relay_histories, arith}
use Rattle.replay_steps.proofs.Between.{offers_lent, offers_stop, sink_relays}
use Rattle.replay_steps.proofs.machine.Machine.close_sink.Goals as goal

pub returns-in-Err-clause-closes : goal.returns-in-Err-clause-closes
returns-in-Err-clause-closes g c steps past components = grind (arith, c.in-Err.ensures.closes past components.sinks)

pub returns-in-Err-offer_all-clause-closes : goal.returns-in-Err-offer_all-clause-closes
returns-in-Err-offer_all-clause-closes g c steps past components =
    let closed = c.in-Ok.ensures.closes past components.sinks in
    let lent = c.lent-units.ensures (with_close_at c.args.sink 0 c.args.event past) (handed_all (closing_of c.args.sink 0 c.args.event past)) closed.lends in
    let offered = c.in-Err-offer_all.ensures steps (relay_of c.args.sink steps) (c.route-route.ensures (relay_histories steps) components.relays) components.sources components.relays in
    offers_stop steps past c.args.sink c.args.event c.close_at.new.self c.args.self.now c.offer_all.new.sources c.offer_all.new.relays c.args.text.now c.close_at.new.text
    c.offer_all.new.text _ _ c.in-Err-offer_all.stop closed (grind (arith, offers_lent, map, handed_of))

pub returns-clause-closes : goal.returns-clause-closes
returns-clause-closes g c steps past components =
    let closed = c.in-Ok.ensures.closes past components.sinks in
    let lent = c.lent-units.ensures (with_close_at c.args.sink 0 c.args.event past) (handed_all (closing_of c.args.sink 0 c.args.event past)) closed.lends in
    let offered = c.in-Ok-offer_all.ensures steps (relay_of c.args.sink steps) (c.route-route.ensures (relay_histories steps) components.relays) components.sources components.relays in
    sink_relays steps past c.args.sink c.args.event c.close_at.new.self _ c.args.text.now c.close_at.new.text c.offer_all.new.text _ _ closed
    (offers_lent steps past c.args.sink c.args.event (map handed_of c.lent-units.result.now) c.offer_all.new.sources c.offer_all.new.relays c.close_at.new.text c.offer_all.new.text
    (Ok tt) lent offered)
    (c.forget.ensures (with_close_at c.args.sink 0 c.args.event past) (handed_all (closing_of c.args.sink 0 c.args.event past)) closed.lends)

pub returns-in-Err-clause-others : goal.returns-in-Err-clause-others
returns-in-Err-clause-others g c steps past components = c.close_at.ensures.others past components.sinks

pub returns-in-Err-offer_all-clause-others : goal.returns-in-Err-offer_all-clause-others
returns-in-Err-offer_all-clause-others g c steps past components = c.close_at.ensures.others past components.sinks

pub returns-clause-others : goal.returns-clause-others
returns-clause-others g c steps past components = c.close_at.ensures.others past components.sinks
