use Rattle.scenario_laws.proofs.TwoAirs.{airs_meet}
use Rattle.scenario_laws.proofs.history_laws.some_airs_meet.Goals as goal

pub returns : goal.returns
returns c = airs_meet c.one_air.ensures.some
