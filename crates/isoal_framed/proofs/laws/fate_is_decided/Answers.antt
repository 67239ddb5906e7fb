use Rattle.isoal_framed.proofs.Fates.{fate_is, is_fate}
use Rattle.isoal_framed.proofs.laws.fate_is_decided.Goals as goal

pub returns : goal.returns
returns c max_sdu run followed fate = (fate_is max_sdu run followed fate, is_fate max_sdu run followed fate)
