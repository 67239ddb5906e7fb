use Rattle.replay_steps.proofs.Prelude.{version_of}
use Rattle.replay_steps.proofs.Offering.{gives_second}
use Rattle.replay_steps.proofs.relay_steps.give_second.Goals as goal

pub returns : goal.returns
returns c steps offer route unit stands =
    gives_second steps offer c.args.to c.args.time c.args.octets.now c.chosen-chosen.result c.give-given.new.self c.choose-2.new.self c.give-given.result route unit
    (c.chosen-chosen.ensures.source steps stands)
    (c.give-given.ensures (version_of steps) _ (c.choose.ensures steps stands)) (λ made given. c.choose-2.ensures made given)
