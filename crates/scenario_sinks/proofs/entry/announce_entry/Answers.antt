use Rattle.scenario_sinks.proofs.Prelude.{Announce, histories_of}
use Rattle.scenario_sinks.proofs.Entries.{entry_ran, sink_in}
use Rattle.scenario_sinks.proofs.entry.announce_entry.Goals as goal

pub returns : goal.returns
returns c source box made own calls_made received from announced entry =
    let was = sink_in box made own calls_made received c.args.entry.now c.in-Some.sink entry c.in-Some.is in
    entry_ran box made own calls_made received source (Announce c.args.number) c.in-Some.sink c.tell.new.sink c.args.text.now c.tell.new.text c.tell.result was
    c.tell.ensures.outlet (c.tell.ensures.makes source (histories_of was.how own calls_made received) from announced was.lives)
