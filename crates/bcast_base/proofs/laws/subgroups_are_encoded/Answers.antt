use Rattle.bcast_base.proofs.Groups.{subgroups_take, subgroups_again}
use Rattle.bcast_base.proofs.laws.subgroups_are_encoded.Goals as goal

pub returns-clause-taken : goal.returns-clause-taken
returns-clause-taken c = subgroups_take

pub returns-clause-again : goal.returns-clause-again
returns-clause-again c = subgroups_again
