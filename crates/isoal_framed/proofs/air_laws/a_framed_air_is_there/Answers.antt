use Rattle.isoal_framed.proofs.Filling.{framed_air_is}
use Rattle.isoal_framed.proofs.air_laws.a_framed_air_is_there.Goals as goal

pub returns : goal.returns
returns c = framed_air_is
