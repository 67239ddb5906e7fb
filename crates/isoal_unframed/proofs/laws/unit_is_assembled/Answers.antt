use Rattle.isoal_unframed.proofs.UnitLaws.{unit_is, is_unit, no_unit, unit_none}
use Rattle.isoal_unframed.proofs.laws.unit_is_assembled.Goals as goal

pub returns-clause-some : goal.returns-clause-some
returns-clause-some c max_sdu slot octets = (unit_is max_sdu slot octets, is_unit max_sdu slot octets)

pub returns-clause-none : goal.returns-clause-none
returns-clause-none c max_sdu slot = (no_unit max_sdu slot, unit_none max_sdu slot)
