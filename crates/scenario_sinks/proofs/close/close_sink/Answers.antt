use Rattle.std.proofs.Common.{arith}
use Rattle.scenario_sinks.proofs.Prelude.{sym, ◌∙◌}
use Rattle.scenario_sinks.proofs.Closings.{not_both, sink_closes, sink_rests, sink_rests_held}
use Rattle.scenario_sinks.proofs.close.close_sink.Goals as goal

pub returns-then-not-is_sink_of-clause-closes : goal.returns-then-not-is_sink_of-clause-closes
returns-then-not-is_sink_of-clause-closes g c box made own calls_made received entry empty cleared =
    sink_rests box made own calls_made received c.args.number c.args.source c.args.event c.args.entry.now c.args.gathered.now c.args.text.now _ entry
    (sym (c.is_sink_of.ensures box made own calls_made received entry) ∙ c.if-not-is_sink_of.true) empty

pub returns-then-not-is_sink_of-clause-hands : goal.returns-then-not-is_sink_of-clause-hands
returns-then-not-is_sink_of-clause-hands g c box made own calls_made received entry empty kept =
    sink_rests_held box made own calls_made received c.args.number c.args.source c.args.event c.args.entry.now c.args.gathered.now c.args.text.now _ entry
    (sym (c.is_sink_of.ensures box made own calls_made received entry) ∙ c.if-not-is_sink_of.true) empty

pub returns-in-Err-clause-closes : goal.returns-in-Err-clause-closes
returns-in-Err-clause-closes g c box made own calls_made received entry empty cleared = grind (arith, sink_closes)

pub returns-in-Err-clause-hands : goal.returns-in-Err-clause-hands
returns-in-Err-clause-hands g c box made own calls_made received entry empty kept = c.in-Err.ensures.hands box made own calls_made received entry empty

pub returns-then-keeps-clause-closes : goal.returns-then-keeps-clause-closes
returns-then-keeps-clause-closes g c box made own calls_made received entry empty cleared = absurd (not_both c.args.keeps c.if-keeps.true cleared)

pub returns-then-keeps-clause-hands : goal.returns-then-keeps-clause-hands
returns-then-keeps-clause-hands g c box made own calls_made received entry empty kept = c.in-Ok.ensures.hands box made own calls_made received entry empty

pub returns-clause-closes : goal.returns-clause-closes
returns-clause-closes g c box made own calls_made received entry empty cleared = grind (arith, sink_closes)

pub returns-clause-hands : goal.returns-clause-hands
returns-clause-hands g c box made own calls_made received entry empty kept = absurd (not_both c.args.keeps kept c.if-keeps.false)
