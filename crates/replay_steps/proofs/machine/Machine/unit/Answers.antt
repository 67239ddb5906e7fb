use Rattle.replay_steps.proofs.Prelude.{refl}
use Rattle.replay_steps.proofs.machine.Machine.unit.Goals as goal

pub returns : goal.returns
returns c boxes version steps stands e = c.give.ensures boxes version steps c.args.self.now stands refl refl e
