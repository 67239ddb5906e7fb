use Rattle.scenario_sinks.proofs.Entries.{event_heard, event_passed, none_hears, sink_in}
use Rattle.scenario_sinks.proofs.Prelude.{histories_of}
use Rattle.scenario_sinks.proofs.entry.hear_event_entry.Goals as goal

pub returns-in_default : goal.returns-in_default
returns-in_default g c box made own calls_made received entry = none_hears box made own calls_made received _ c.args.entry.now entry c.in_default.is

pub returns-then-not-is_of : goal.returns-then-not-is_of
returns-then-not-is_of g c box made own calls_made received entry =
    let was = sink_in box made own calls_made received c.args.entry.now c.in-Some.sink entry c.in-Some.is in
    event_passed box made own calls_made received c.args.source c.args.event c.args.bis (g.E.StreamEvent.pdus c.args.sent.now) c.in-Some.sink c.source.result c.is_of.result was
    (c.source.ensures (histories_of was.how own calls_made received) was.lives) c.is_of.ensures c.if-not-is_of.true

pub returns : goal.returns
returns g c box made own calls_made received entry =
    let was = sink_in box made own calls_made received c.args.entry.now c.in-Some.sink entry c.in-Some.is in
    event_heard box made own calls_made received c.args.source c.args.event c.args.bis (g.E.StreamEvent.pdus c.args.sent.now) c.in-Some.sink c.deliver_event.new.sink c.source.result c.is_of.result was
    c.deliver_event.ensures.outlet (c.source.ensures (histories_of was.how own calls_made received) was.lives) c.is_of.ensures c.if-not-is_of.false
    (c.deliver_event.ensures.lives (histories_of was.how own calls_made received) was.lives)
