use Rattle.scenario_sinks.proofs.Prelude.{◌∙◌}
use Rattle.scenario_sinks.proofs.sinks.Sinks.lent.Goals as goal

pub returns : goal.returns
returns c past units lends = c.as_slice.ensures ∙ lends.held
