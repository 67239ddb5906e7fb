use Rattle.bcast_base.proofs.Fields.{number_takes, counted_takes}
use Rattle.bcast_base.proofs.laws.read_is_encoded.Goals as goal

pub returns-clause-number : goal.returns-clause-number
returns-clause-number c = number_takes

pub returns-clause-counted : goal.returns-clause-counted
returns-clause-counted c = counted_takes
