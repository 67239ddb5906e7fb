use Rattle.scenario_sinks.proofs.sinks.Sinks.forget.Goals as goal

pub returns : goal.returns
returns c past units lends = record { entries = lends.entries; made = lends.made; empty = c.clear.ensures.items }
