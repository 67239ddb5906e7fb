use Rattle.replay_steps.proofs.Prelude.{arith, relay_histories}
use Rattle.replay_steps.proofs.machine.Machine.may_relay.Goals as goal

pub returns-then-source-eq0 : goal.returns-then-source-eq0
returns-then-source-eq0 c steps past components = grind (arith, c.is_idle.ensures (relay_histories steps) components.relays)
