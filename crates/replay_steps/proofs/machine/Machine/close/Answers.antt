use Rattle.replay_steps.proofs.Prelude.{arith}
use Rattle.replay_steps.proofs.Closed.{first_closes}
use Rattle.replay_steps.proofs.Idle.{closes_at_once, relays_first}
use Rattle.replay_steps.proofs.machine.Machine.close.Goals as goal

pub returns-in_default-clause-closes : goal.returns-in_default-clause-closes
returns-in_default-clause-closes g c steps past components = grind arith

pub returns-then-may_relay-clause-closes : goal.returns-then-may_relay-clause-closes
returns-then-may_relay-clause-closes g c steps past components =
    grind (arith, first_closes, relays_first, c.may_relay.ensures steps past components, c.close_sinks.ensures.closes steps past components)

pub returns-clause-closes : goal.returns-clause-closes
returns-clause-closes g c steps past components =
    grind (arith, closes_at_once, c.may_relay.ensures steps past components, c.close.ensures.closes past components.sinks)

pub returns-clause-others : goal.returns-clause-others
returns-clause-others g c steps past components = c.close.ensures.others past components.sinks
