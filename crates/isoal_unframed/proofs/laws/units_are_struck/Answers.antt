use Rattle.isoal_unframed.proofs.Struck.{units_struck}
use Rattle.isoal_unframed.proofs.laws.units_are_struck.Goals as goal

pub returns : goal.returns
returns c stay slots calls bounds plain fits source = units_struck stay slots calls bounds plain fits source
