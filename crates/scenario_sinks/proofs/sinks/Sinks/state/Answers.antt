use Rattle.scenario_sinks.proofs.Prelude.{refl, sym, ◌∙◌, arith}
use Rattle.scenario_sinks.proofs.Entries.{entry_read}
use Rattle.scenario_sinks.proofs.sinks.Sinks.state.Goals as goal

pub returns : goal.returns
returns c past stands =
    c.state_of_entry.ensures (past.boxes c.args.sink) (past.mades c.args.sink) (past.sources c.args.sink) (past.lives c.args.sink) (past.received c.args.sink)
    (entry_read past c.args.sink c.args.sink c.args.self.now.entries.items c.index.result.now refl (sym c.args.self.now.entries.ok.0 ∙ c.args.self.now.eight) (omega arith) c.index.ensures stands.entries)
