use Rattle.replay_steps.proofs.Prelude.{refl, arith}
use Rattle.replay_steps.proofs.Closing.{closes_meet, others_stay, step_refused, stop_closes}
use Rattle.replay_steps.proofs.machine.Machine.stop.Goals as goal

pub returns-in-Err-clause-meets : goal.returns-in-Err-clause-meets
returns-in-Err-clause-meets g c starts version steps stands e =
    step_refused starts version c.stop.new.self c.args.text.now _ c.in-Err.stop stop_closes stands e
    (grind (arith, c.in-Err.ensures.closes version steps stands.sources))

pub returns-clause-meets : goal.returns-clause-meets
returns-clause-meets g c starts version steps stands e =
    let p = c.in-Ok.ensures.closes version steps stands.sources in
    closes_meet stop_closes stands p.1 e p.0 p.2 (c.chosen-chosen.ensures.source _ p.1) c.chosen-chosen.ensures.within starts _ _ _ _ _ _
    refl c.close.ensures.stage c.close.ensures.closes

pub returns-clause-unassigned : goal.returns-clause-unassigned
returns-clause-unassigned g c steps stands =
    others_stay stop_closes stands (c.in-Ok.ensures.closes 0 steps stands.sources).1 _ _ c.close.ensures.others
