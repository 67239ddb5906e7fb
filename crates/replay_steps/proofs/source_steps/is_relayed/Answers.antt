use Rattle.replay_steps.proofs.Prelude.{arith}
use Rattle.replay_steps.proofs.source_steps.is_relayed.Goals as goal

pub returns-then-chosen-ne1 : goal.returns-then-chosen-ne1
returns-then-chosen-ne1 c steps sources relays = grind (arith, c.chosen.ensures.source steps sources)

pub returns : goal.returns
returns c steps sources relays = grind (arith, c.chosen.ensures.source steps sources, c.had_relay.ensures _ relays)
