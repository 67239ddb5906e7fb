use Rattle.scenario_sinks.proofs.Prelude.{◌∙◌, ap, BigSync, histories_of}
use Rattle.scenario_history.specs.Refusals.{has_beyond}
use Rattle.scenario_sinks.proofs.Entries.{entry_tuned, sink_in}
use Rattle.scenario_sinks.proofs.entry.tune_entry.Goals as goal

pub returns : goal.returns
returns c box made own calls_made received entry =
    let was = sink_in box made own calls_made received c.args.entry.now c.in-Some.sink entry c.in-Some.is in
    entry_tuned box made own calls_made received c.args.source c.args.big_sync.now c.in-Some.sink _ c.is_beyond.result was
    c.in-Ok.ensures.outlet (c.in-Ok.ensures.lives (histories_of was.how own calls_made received) was.lives)
    (c.is_beyond.ensures ∙ ap (λ (big_sync : BigSync). has_beyond big_sync.info.num_bis big_sync.which) c.big_sync.view_is) c.if-is_beyond.false
