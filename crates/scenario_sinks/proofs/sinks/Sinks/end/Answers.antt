use Rattle.scenario_sinks.proofs.Prelude.{refl, sym, ◌∙◌, arith}
use Rattle.scenario_sinks.proofs.Entries.{entry_read, sink_in}
use Rattle.scenario_sinks.proofs.OneSink.{ended}
use Rattle.scenario_sinks.proofs.sinks.Sinks.end.Goals as goal

pub returns-clause-answer : goal.returns-clause-answer
returns-clause-answer g c past stands =
    ended c.args.sink c.args.sink past c.args.self.now _ c.in-Some.entry stands refl (omega arith) (sym c.args.self.now.entries.ok.0 ∙ c.args.self.now.eight)
    (rw c.in-Some.is at c.index.ensures) c.put_entry.ensures.entries refl refl

pub returns-clause-text : goal.returns-clause-text
returns-clause-text g c past stands =
    let n = c.args.sink in
    let eight = sym c.args.self.now.entries.ok.0 ∙ c.args.self.now.eight in
    let entry = entry_read past n c.args.sink c.args.self.now.entries.items c.index.result.now refl eight (omega arith) c.index.ensures stands.entries in
    let was = sink_in (past.boxes n) (past.mades n) (past.sources n) (past.lives n) (past.received n) c.index.result.now c.in-Some.entry entry c.in-Some.is in
    rw was.box_is c.in-Ok.ensures
