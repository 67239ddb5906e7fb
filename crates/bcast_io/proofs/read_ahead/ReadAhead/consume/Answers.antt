use Rattle.bcast_io.proofs.Prelude.{arith, length, length-take, ◌-◌, drop}
use Rattle.bcast_io.proofs.Slices.{part-drop}
use Rattle.bcast_io.proofs.read_ahead.ReadAhead.consume.Goals as goal

pub returns-clause-octets : goal.returns-clause-octets
returns-clause-octets c = grind (arith, length, length-take, drop, part-drop)
