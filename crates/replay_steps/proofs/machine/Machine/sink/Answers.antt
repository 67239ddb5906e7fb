use Rattle.replay_steps.proofs.Prelude.{refl, histories_of, number_of}
use Rattle.replay_steps.proofs.Stepping.{make_meets}
use Rattle.replay_steps.proofs.machine.Machine.sink.Goals as goal

pub returns : goal.returns
returns c steps stands e =
    make_meets c.args.boxes (number_of c.args.version) c.args.sink c.args.streams c.args.slots _ c.args.mtu steps c.args.self.now _ c.make.result stands e
    c.limits-horizon.ensures.horizon refl refl refl (c.make.ensures (histories_of steps) stands.sinks)
