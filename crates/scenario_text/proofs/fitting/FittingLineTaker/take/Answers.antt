use Rattle.scenario_text.proofs.Prelude.{arith, all_have}
use Rattle.scenario_text.proofs.fitting.FittingLineTaker.take.Goals as goal

pub returns : goal.returns
returns c = grind (arith, all_have)
