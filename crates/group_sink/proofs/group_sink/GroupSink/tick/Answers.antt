use Rattle.group_sink.proofs.Prelude.{tick, arith}
use Rattle.group_sink.proofs.Standing.{some_hands, some_ticks}
use Rattle.group_sink.proofs.group_sink.GroupSink.tick.Goals as goal

pub returns-clause-hands : goal.returns-clause-hands
returns-clause-hands g c calls stands = grind (arith, some_hands)

pub returns-clause-stands : goal.returns-clause-stands
returns-clause-stands g c calls stands = grind (arith, tick, some_ticks)
