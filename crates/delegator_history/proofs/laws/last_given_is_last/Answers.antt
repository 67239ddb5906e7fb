use Rattle.delegator_history.proofs.Lasts.{is_last, last_is}
use Rattle.delegator_history.proofs.laws.last_given_is_last.Goals as goal

pub returns : goal.returns
returns g c gives steps given = (is_last gives steps given, last_is gives steps given)
