use Rattle.scenario_sinks.proofs.Prelude.{refl, Some, arith, rules, calls_of, histories_of}
use Rattle.scenario_sinks.proofs.Closings.{gathered_are, sink_hands}
use Rattle.scenario_sinks.proofs.Entries.{sink_in}
use Rattle.scenario_sinks.proofs.close.hand_living.Goals as goal

-- what gathers units has no faults of its own
pub unreachable-requires : goal.unreachable-requires
unreachable-requires g c = grind arith

pub returns-clause-hands : goal.returns-clause-hands
returns-clause-hands g c box made own calls_made received entry mine outlet empty =
    let was = sink_in box made own calls_made received (Some c.args.sink.now) c.args.sink.now entry refl in
    sink_hands box made own calls_made received c.args.owner c.args.event c.args.sink.now _ (calls_of c.tick.new.taker) _
    c.args.text.now c.hand_gathered.new.text _ _ _ was mine outlet
    (gathered_are (calls_of c.args.gathered.now) (calls_of c.tick.new.taker) _ empty
    (c.in-Ok.ensures.hands (histories_of was.how own calls_made received) was.lives))
    c.hand_gathered.ensures.hands refl (c.in-Ok.ensures.lives (histories_of was.how own calls_made received) was.lives) (search rules)
