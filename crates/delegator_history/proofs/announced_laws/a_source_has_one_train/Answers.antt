use Rattle.delegator_history.proofs.Prelude.{refl}
use Rattle.bcast_base.specs.Encoding.{number}
use Rattle.delegator_history.proofs.Octets.{train_is, train_only}
use Rattle.delegator_history.proofs.announced_laws.a_source_has_one_train.Goals as goal

pub returns-clause-is : goal.returns-clause-is
returns-clause-is c = train_is

pub returns-clause-only : goal.returns-clause-only
returns-clause-only c = train_only

pub returns-clause-worked : goal.returns-clause-worked
unfolding number
returns-clause-worked c = record { time = refl; ext = refl; adv = refl; acad = refl }
