use Rattle.isoal_framed.proofs.Stays.{struck_is}
use Rattle.isoal_framed.proofs.laws.framed_units_are_struck.Goals as goal

pub returns : goal.returns
returns c stay units laid calls some order within fit source = struck_is stay units laid calls some order within fit source
