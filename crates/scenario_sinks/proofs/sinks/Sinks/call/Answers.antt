use Rattle.scenario_sink.specs.SinkCalls.{call_step}
use Rattle.scenario_sinks.proofs.Prelude.{refl, sym, ◌∙◌, arith}
use Rattle.scenario_sinks.proofs.Entries.{entry_read}
use Rattle.scenario_sinks.proofs.SinkLines.{ran}
use Rattle.scenario_sinks.proofs.sinks.Sinks.call.Goals as goal

pub returns : goal.returns
returns c past source stands =
    let eight = sym c.args.self.now.entries.ok.0 ∙ c.args.self.now.eight in
    let entry = entry_read past c.args.sink c.args.sink c.args.self.now.entries.items c.index_mut.result.now refl eight (omega arith) c.index_mut.ensures.value stands.entries in
    ran c.args.sink c.args.sink source (call_step c.args.call c.args.sink) past c.args.self.now _ c.call_entry.new.entry c.args.text.now c.call_entry.new.text
    c.call_entry.result stands refl (omega arith) eight
    (c.call_entry.ensures source (past.boxes c.args.sink) (past.mades c.args.sink) (past.sources c.args.sink) (past.lives c.args.sink) (past.received c.args.sink) entry) refl refl refl
