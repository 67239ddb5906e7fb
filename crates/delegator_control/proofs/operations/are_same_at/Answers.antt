use Rattle.delegator_control.proofs.Streams.{same_next}
use Rattle.delegator_control.proofs.operations.are_same_at.Goals as goal

pub returns : goal.returns
returns c = same_next c.args.wishes.now c.args.others.now c.args.place c.item-wish.result.now c.item-other.result.now c.item-wish.ensures c.item-other.ensures
