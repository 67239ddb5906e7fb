use Rattle.isoal_framed.proofs.Closed.{close_gains}
use Rattle.isoal_framed.proofs.laws.a_close_gains_units.Goals as goal

pub returns : goal.returns
returns c stay calls = close_gains stay calls
