use Rattle.scenario_sinks.proofs.Entries.{entry_heard, entry_passed, sink_in}
use Rattle.scenario_sinks.proofs.Prelude.{histories_of}
use Rattle.scenario_sinks.proofs.entry.hear_entry.Goals as goal

pub returns-then-not-is_of : goal.returns-then-not-is_of
returns-then-not-is_of c box made own calls_made received entry =
    let was = sink_in box made own calls_made received c.args.entry.now c.in-Some.sink entry c.in-Some.is in
    entry_passed box made own calls_made received c.args.source c.args.event c.args.bis c.args.subevent c.args.octets.now c.in-Some.sink c.source.result c.is_of.result was
    (c.source.ensures (histories_of was.how own calls_made received) was.lives) c.is_of.ensures c.if-not-is_of.true

pub returns : goal.returns
returns c box made own calls_made received entry =
    let was = sink_in box made own calls_made received c.args.entry.now c.in-Some.sink entry c.in-Some.is in
    entry_heard box made own calls_made received c.args.source c.args.event c.args.bis c.args.subevent c.args.octets.now c.in-Some.sink c.deliver.new.sink c.source.result c.is_of.result c.deliver.result was
    c.deliver.ensures.outlet (c.source.ensures (histories_of was.how own calls_made received) was.lives) c.is_of.ensures c.if-not-is_of.false (c.deliver.ensures.answer (histories_of was.how own calls_made received) was.lives)
    (c.deliver.ensures.lives (histories_of was.how own calls_made received) was.lives)
