use Rattle.replay_steps.proofs.Prelude.{◌++◌, ◌∙◌, List, ap, arith, stale_lines}
use Rattle.source_machine.specs.declared.sent.Stale.{Stale}
use Rattle.replay_steps.proofs.Closing.{closed_by, closed_meets, closed_wants, event_closes, others_stay, step_refused, stops_by}
use Rattle.replay_steps.proofs.machine.Machine.event.Goals as goal

pub returns-in-Err-clause-meets : goal.returns-in-Err-clause-meets
returns-in-Err-clause-meets g c starts version steps stands e =
    step_refused starts version c.perform.new.self c.args.text.now _ c.in-Err.stop event_closes stands e
    (grind (arith, c.in-Err.ensures.performs version steps stands.sources))

pub returns-in-Err-close-clause-meets : goal.returns-in-Err-close-clause-meets
returns-in-Err-close-clause-meets g c starts version steps stands e =
    let p = c.in-Ok.ensures.performs version steps stands.sources in
    stops_by event_closes stands p.1 e p.0 p.2 (c.chosen-chosen.ensures.source _ p.1) c.chosen-chosen.ensures.within starts _ _ _ _ _ _ _
    c.close.ensures.stage c.in-Err-close.ensures.closes

pub returns-in-Ok-put_stale_units-clause-meets : goal.returns-in-Ok-put_stale_units-clause-meets
returns-in-Ok-put_stale_units-clause-meets g c starts version steps stands e =
    let p = c.in-Ok.ensures.performs version steps stands.sources in
    closed_meets _ _ starts steps _ _ _ _ _ _ event_closes
    (closed_by event_closes stands p.1 e p.0 p.2 (c.chosen-chosen.ensures.source _ p.1) c.chosen-chosen.ensures.within starts _ _ _ _ _
    c.close.ensures.stage c.in-Ok-close.ensures.closes)
    (c.in-Ok-put_stale_units.ensures ∙ ap (λ (us : List Stale). c.close.new.text ++ stale_lines us) (c.as_slice.ensures ∙ p.3))

pub returns-clause-meets : goal.returns-clause-meets
returns-clause-meets g c starts version steps stands e =
    let p = c.in-Ok.ensures.performs version steps stands.sources in
    closed_wants _ starts steps c.close.new.self c.args.text.now c.close.new.text _ _
    (closed_by event_closes stands p.1 e p.0 p.2 (c.chosen-chosen.ensures.source _ p.1) c.chosen-chosen.ensures.within
    starts c.close.new.self c.args.text.now c.close.new.text _ _ c.close.ensures.stage c.in-Ok-close.ensures.closes)

pub returns-in-Err-close-clause-unassigned : goal.returns-in-Err-close-clause-unassigned
returns-in-Err-close-clause-unassigned g c steps stands =
    others_stay event_closes stands (c.in-Ok.ensures.performs 0 steps stands.sources).1 _ _ c.close.ensures.others

pub returns-in-Ok-put_stale_units-clause-unassigned : goal.returns-in-Ok-put_stale_units-clause-unassigned
returns-in-Ok-put_stale_units-clause-unassigned g c steps stands =
    others_stay event_closes stands (c.in-Ok.ensures.performs 0 steps stands.sources).1 _ _ c.close.ensures.others

pub returns-clause-unassigned : goal.returns-clause-unassigned
returns-clause-unassigned g c steps stands =
    others_stay event_closes stands (c.in-Ok.ensures.performs 0 steps stands.sources).1 _ _ c.close.ensures.others
