use Rattle.scenario_sources.proofs.Prelude.{◌∙◌}
use Rattle.scenario_sources.proofs.Drafts.{bare_is}
use Rattle.scenario_sources.proofs.basing.is_last_bare.Goals as goal

pub returns : goal.returns
returns c = c.is_bare.ensures ∙ bare_is c.args.base.now c.check.result c.check.ensures
