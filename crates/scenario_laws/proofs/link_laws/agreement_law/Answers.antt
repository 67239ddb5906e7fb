use Rattle.scenario_laws.proofs.Known.Sources.{links_agree}
use Rattle.scenario_laws.proofs.link_laws.agreement_law.Goals as goal

pub returns : goal.returns
returns c = search (links_agree)
