use Rattle.scenario_text.specs.declared.step.Step.TheVariants.{Train}
use Rattle.scenario_sinks.proofs.Prelude.{refl, sym, ◌∙◌, arith}
use Rattle.scenario_sinks.proofs.Entries.{entry_read}
use Rattle.scenario_sinks.proofs.SinkLines.{ran}
use Rattle.scenario_sinks.proofs.sinks.Sinks.train.Goals as goal

pub returns : goal.returns
returns c past source from stands =
    let eight = sym c.args.self.now.entries.ok.0 ∙ c.args.self.now.eight in
    let entry = entry_read past c.args.sink c.args.sink c.args.self.now.entries.items c.index_mut.result.now refl eight (omega arith) c.index_mut.ensures.value stands.entries in
    ran c.args.sink c.args.sink source (Train c.args.sink c.args.time c.args.ext.now c.args.adv.now c.args.acad.now) past c.args.self.now _ c.train_entry.new.entry
    c.args.text.now c.train_entry.new.text c.train_entry.result stands refl (omega arith) eight
    (c.train_entry.ensures source (past.boxes c.args.sink) (past.mades c.args.sink) (past.sources c.args.sink) (past.lives c.args.sink) (past.received c.args.sink) from entry)
    refl refl refl
