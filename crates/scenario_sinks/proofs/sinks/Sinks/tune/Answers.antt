use Rattle.scenario_sinks.proofs.Prelude.{refl, sym, ◌∙◌, arith}
use Rattle.scenario_sinks.proofs.Entries.{entry_read}
use Rattle.scenario_sinks.proofs.OneSink.{tuned}
use Rattle.scenario_sinks.proofs.sinks.Sinks.tune.Goals as goal

pub returns : goal.returns
returns c past stands =
    let eight = sym c.args.self.now.entries.ok.0 ∙ c.args.self.now.eight in
    let entry = entry_read past c.args.sink c.args.sink c.args.self.now.entries.items c.index_mut.result.now refl eight (omega arith) c.index_mut.ensures.value stands.entries in
    tuned c.args.sink c.args.sink c.args.source c.args.big_sync.now past c.args.self.now _ c.tune_entry.new.entry c.tune_entry.result stands refl (omega arith) eight
    (c.tune_entry.ensures (past.boxes c.args.sink) (past.mades c.args.sink) (past.sources c.args.sink) (past.lives c.args.sink) (past.received c.args.sink) entry) refl refl refl
