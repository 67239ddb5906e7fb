use Rattle.scenario_sinks.proofs.Entries.{entry_ran, sink_in}
use Rattle.scenario_sinks.proofs.Prelude.{histories_of}
use Rattle.scenario_sinks.proofs.entry.operate_entry.Goals as goal

pub returns : goal.returns
returns c source step box made own calls_made received text is entry =
    let was = sink_in box made own calls_made received c.args.entry.now c.in-Some.sink entry c.in-Some.is in
    entry_ran box made own calls_made received source step c.in-Some.sink c.operate.new.sink text text c.operate.result was
    c.operate.ensures.outlet (c.operate.ensures.makes source step (histories_of was.how own calls_made received) text is was.lives)
