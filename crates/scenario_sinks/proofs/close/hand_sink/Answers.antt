use Rattle.scenario_sinks.proofs.Prelude.{ap, refl, sym, ◌∙◌, is_of, histories_of}
use Rattle.scenario_sinks.proofs.Closings.{sink_left}
use Rattle.scenario_sinks.proofs.Entries.{entry_of, sink_in}
use Rattle.scenario_sinks.proofs.Unassigned.{all_but}
use Rattle.scenario_sinks.proofs.close.hand_sink.Goals as goal

pub returns-then-not-is_of-clause-hands : goal.returns-then-not-is_of-clause-hands
returns-then-not-is_of-clause-hands g c box made own calls_made received entry empty =
    let was = sink_in box made own calls_made received c.args.entry.now c.in-Some.sink entry c.in-Some.is in
    sink_left box made own calls_made received c.args.number c.args.source c.args.event c.in-Some.sink c.source.result c.is_of.result c.args.gathered.now c.args.text.now _
    was (c.source.ensures (histories_of was.how own calls_made received) was.lives) c.is_of.ensures c.if-not-is_of.true empty

pub returns-clause-hands : goal.returns-clause-hands
returns-clause-hands g c box made own calls_made received entry empty =
    let was = sink_in box made own calls_made received c.args.entry.now c.in-Some.sink entry c.in-Some.is in
    c.hand_living.ensures.hands box made own calls_made received (entry_of box made own calls_made received c.in-Some.sink was)
    (ap (is_of c.args.source) (sym (c.source.ensures (histories_of was.how own calls_made received) was.lives)) ∙ sym c.is_of.ensures ∙ c.if-not-is_of.false) refl empty

pub returns-clause-others : goal.returns-clause-others
returns-clause-others g c box made own calls_made received entry =
    let was = sink_in box made own calls_made received c.args.entry.now c.in-Some.sink entry c.in-Some.is in
    all_but box c.in-Some.sink.outlet _ _ was.box_is c.hand_living.ensures.others
