use Rattle.std.proofs.Common.{arith}
use Rattle.scenario_sinks.proofs.Entries.{entry_answers, none_answers, other_answers, sink_in}
use Rattle.scenario_sinks.proofs.Prelude.{histories_of}
use Rattle.scenario_sinks.proofs.entry.answer_entry.Goals as goal

pub returns-in_default : goal.returns-in_default
returns-in_default c box made own calls_made received entry = grind (arith, none_answers)

pub returns-then-not-is_of : goal.returns-then-not-is_of
returns-then-not-is_of c box made own calls_made received entry =
    let was = sink_in box made own calls_made received c.args.entry.now c.in-Some.sink entry c.in-Some.is in
    other_answers box made own calls_made received c.args.source c.args.event c.args.bis c.args.subevent c.args.octets.now c.in-Some.sink c.source.result c.is_of.result was
    (c.source.ensures (histories_of was.how own calls_made received) was.lives) c.is_of.ensures c.if-not-is_of.true

pub returns : goal.returns
returns c box made own calls_made received entry =
    let was = sink_in box made own calls_made received c.args.entry.now c.in-Some.sink entry c.in-Some.is in
    entry_answers box made own calls_made received c.args.source c.args.event c.args.bis c.args.subevent c.args.octets.now c.in-Some.sink c.source.result c.is_of.result
    c.would_answer.result was (c.source.ensures (histories_of was.how own calls_made received) was.lives) c.is_of.ensures c.if-not-is_of.false
    (c.would_answer.ensures (histories_of was.how own calls_made received) was.lives)
