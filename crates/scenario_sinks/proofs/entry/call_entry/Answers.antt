use Rattle.scenario_sink.specs.SinkCalls.{call_step}
use Rattle.scenario_sinks.proofs.Entries.{entry_ran, sink_in}
use Rattle.scenario_sinks.proofs.Prelude.{histories_of}
use Rattle.scenario_sinks.proofs.entry.call_entry.Goals as goal

pub returns : goal.returns
returns c source box made own calls_made received entry =
    let was = sink_in box made own calls_made received c.args.entry.now c.in-Some.sink entry c.in-Some.is in
    entry_ran box made own calls_made received source (call_step c.args.call c.args.number) c.in-Some.sink c.make_call.new.sink c.args.text.now c.make_call.new.text
    c.make_call.result was c.make_call.ensures.outlet (c.make_call.ensures.makes source (histories_of was.how own calls_made received) was.lives)
