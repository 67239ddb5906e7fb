use Rattle.replay_steps.proofs.Prelude.{refl, number_of, arith, Start}
use Rattle.replay_steps.proofs.Stepping.{sources_meet}
use Rattle.replay_steps.proofs.machine.Machine.start.Goals as goal

pub returns : goal.returns
returns c boxes steps stands e =
    sources_meet boxes (number_of c.args.version) steps (Start c.args.first) c.args.self.now _ c.start.result
    (grind arith) refl stands e refl refl refl refl
    (c.start.ensures (number_of c.args.version) steps c.limits.ensures.horizon c.limits.ensures.ahead e stands.sources)
