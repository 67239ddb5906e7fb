use Rattle.replay_steps.proofs.Prelude.{arith}
use Rattle.replay_steps.proofs.machine.Machine.origin.Goals as goal

pub returns : goal.returns
returns c steps stands = grind (arith, c.chosen.ensures.source steps stands.sources, c.identity-identity.ensures steps stands.sources)
