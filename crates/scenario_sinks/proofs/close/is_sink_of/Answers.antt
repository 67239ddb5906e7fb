use Rattle.scenario_sinks.proofs.Prelude.{◌∙◌, histories_of}
use Rattle.scenario_sinks.proofs.Entries.{no_sink_of, sink_in, sink_of}
use Rattle.scenario_sinks.proofs.close.is_sink_of.Goals as goal

pub returns-in-Some : goal.returns-in-Some
returns-in-Some c box made own calls_made received entry =
    let was = sink_in box made own calls_made received c.args.entry.now c.in-Some.sink entry c.in-Some.is in
    c.is_of.ensures ∙ sink_of box made own calls_made received c.args.source c.args.entry.now c.in-Some.sink c.source.result entry c.in-Some.is
    (c.source.ensures (histories_of was.how own calls_made received) was.lives)

pub returns-in-None : goal.returns-in-None
returns-in-None c box made own calls_made received entry = no_sink_of box made own calls_made received c.args.source c.args.entry.now entry c.in-None.is
