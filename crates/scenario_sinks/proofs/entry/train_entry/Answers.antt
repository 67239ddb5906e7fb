use Rattle.scenario_text.specs.declared.step.Step.TheVariants.{Train}
use Rattle.scenario_sinks.proofs.Prelude.{histories_of}
use Rattle.scenario_sinks.proofs.Entries.{entry_ran, sink_in}
use Rattle.scenario_sinks.proofs.entry.train_entry.Goals as goal

pub returns : goal.returns
returns c source box made own calls_made received from entry =
    let was = sink_in box made own calls_made received c.args.entry.now c.in-Some.sink entry c.in-Some.is in
    entry_ran box made own calls_made received source (Train c.args.number c.args.time c.args.ext.now c.args.adv.now c.args.acad.now) c.in-Some.sink c.give.new.sink
    c.args.text.now c.give.new.text c.give.result was c.give.ensures.outlet
    (c.give.ensures.makes source (histories_of was.how own calls_made received) from was.lives)
