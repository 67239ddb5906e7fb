use Rattle.scenario_laws.proofs.Known.Sources.{arith, apart_agree}
use Rattle.scenario_laws.proofs.link_laws.links_law.Goals as goal

pub returns : goal.returns
returns c = grind (arith, apart_agree)
