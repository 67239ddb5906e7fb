use Rattle.bcast_base.proofs.Layouts.{reserved_first, first_reserved, reserved_none, none_reserved}
use Rattle.bcast_base.proofs.laws.reserved_is_first.Goals as goal

pub returns-clause-first : goal.returns-clause-first
returns-clause-first c place fields = (reserved_first place fields, first_reserved place fields)

pub returns-clause-none : goal.returns-clause-none
returns-clause-none c fields = (reserved_none fields, none_reserved 0 fields)
