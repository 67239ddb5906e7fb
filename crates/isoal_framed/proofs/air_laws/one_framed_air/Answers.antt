use Rattle.isoal_framed.proofs.Greedy.{one_air}
use Rattle.isoal_framed.proofs.air_laws.one_framed_air.Goals as goal

pub returns : goal.returns
returns c info calls one other is also = (one_air info calls is.0 also.0 one other is.1 also.1).1
