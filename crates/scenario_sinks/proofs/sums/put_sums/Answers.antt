use Rattle.scenario_sinks.proofs.Prelude.{arith}
use Rattle.scenario_sinks.proofs.Entries.{entry_read}
use Rattle.scenario_sinks.proofs.SumLaws.{sums_all, sums_next}
use Rattle.scenario_sinks.proofs.sums.put_sums.Goals as goal

pub sinks-preserved : goal.sinks-preserved
sinks-preserved g c past are =
    sums_next _ past.boxes c.sinks.number c.args.text.now c.sinks.text c.put_sums_of.new.text (c.sinks.invariant past are)
    (c.in-Ok.ensures (past.boxes c.sinks.number) (past.mades c.sinks.number) (past.sources c.sinks.number) (past.lives c.sinks.number) (past.received c.sinks.number)
    (entry_read past c.sinks.number c.from.result c.args.sinks.now c.index-sinks-from.result c.from.ensures c.requires c.sinks-test.true c.index-sinks-from.is are))

pub returns : goal.returns
returns g c past are = sums_all _ past.boxes c.sinks.number c.args.text.now c.sinks.text (omega arith) (c.sinks.invariant past are)
