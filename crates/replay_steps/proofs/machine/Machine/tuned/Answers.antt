use Rattle.replay_steps.proofs.Prelude.{refl, histories_of}
use Rattle.replay_steps.proofs.Stepping.{tuned_meets}
use Rattle.replay_steps.proofs.machine.Machine.tuned.Goals as goal

pub returns-in_default : goal.returns-in_default
returns-in_default c boxes version steps stands e = (rw (e, c.in_default.ensures steps stands.sources) refl, stands)

pub returns : goal.returns
returns c boxes version steps stands e =
    let at = c.in-Some.ensures steps stands.sources in
    tuned_meets boxes version c.args.sink c.chosen.result c.args.which steps _ c.args.self.now _ c.tune.result stands e at.0 (c.chosen.ensures.source steps stands.sources) at.1
    refl refl refl (c.tune.ensures (histories_of steps) stands.sinks)
