use Rattle.scenario_sources.proofs.Prelude.{ap, ◌∙◌, not}
use Rattle.scenario_sources.proofs.Drafts.{missing_is}
use Rattle.scenario_sources.proofs.basing.has_subgroup.Goals as goal

pub returns : goal.returns
returns c = ap not c.is_missing.ensures ∙ missing_is c.args.base.now c.check.result c.check.ensures
