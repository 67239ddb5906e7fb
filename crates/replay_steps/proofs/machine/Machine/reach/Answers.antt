use Rattle.replay_steps.proofs.Prelude.{arith, refl, sym, ◌∙◌, histories_of}
use Rattle.replay_steps.proofs.machine.Machine.reach.Goals as goal

pub returns-then-not-lives : goal.returns-then-not-lives
returns-then-not-lives c steps stands =
    rw ((c.in-Some.ensures steps stands.sources).0, sym (c.lives.ensures (histories_of steps) stands.sinks) ∙ c.if-not-lives.true) refl

pub returns : goal.returns
returns c steps stands = grind (arith, c.lives.ensures (histories_of steps) stands.sinks, c.in-Some.ensures steps stands.sources)
