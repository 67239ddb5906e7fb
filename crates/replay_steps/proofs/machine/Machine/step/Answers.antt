use Rattle.replay_steps.proofs.Prelude.{arith}
use Rattle.replay_steps.proofs.machine.Machine.step.Goals as goal

pub returns-in-Running-clause-meets : goal.returns-in-Running-clause-meets
returns-in-Running-clause-meets g c starts steps stands boxes = grind (arith, c.later_step.ensures.meets)

pub returns-in_default-clause-meets : goal.returns-in_default-clause-meets
returns-in_default-clause-meets g c starts steps stands boxes = c.begin.ensures starts _ steps c.args.text.now stands
