use Rattle.scenario_sinks.proofs.Entries.{entry_ran, sink_in}
use Rattle.scenario_sinks.proofs.Prelude.{histories_of}
use Rattle.scenario_sinks.proofs.entry.run_entry.Goals as goal

pub returns : goal.returns
returns c source box made own calls_made received from entry =
    let was = sink_in box made own calls_made received c.args.entry.now c.in-Some.sink entry c.in-Some.is in
    entry_ran box made own calls_made received source c.args.step c.in-Some.sink c.run.new.sink c.args.text.now c.run.new.text c.run.result was
    c.run.ensures.outlet (c.run.ensures.makes source (histories_of was.how own calls_made received) from was.lives)
