use Rattle.delegator_choices.proofs.Taken.{with_is}
use Rattle.delegator_choices.proofs.choosing.with.Goals as goal

pub returns : goal.returns
returns c = with_is c.args.set c.args.bis c.with.result c.with.ensures.has c.with.ensures.others
