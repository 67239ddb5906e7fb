use Rattle.replay_steps.proofs.Prelude.{◌++◌, ◌∙◌, ap, arith, control_line}
use Rattle.replay_steps.proofs.Closing.{closed_by, closed_meets, closed_wants, others_stay, step_refused, stops_by, terminate_closes}
use Rattle.replay_steps.proofs.machine.Machine.terminate.Goals as goal

pub returns-in-Err-clause-meets : goal.returns-in-Err-clause-meets
returns-in-Err-clause-meets g c starts version steps stands e =
    step_refused starts version c.terminate.new.self c.args.text.now _ c.in-Err.stop (terminate_closes c.args.reason) stands e
    (grind (arith, c.in-Err.ensures.ends version steps stands.sources))

pub returns-in-Err-close-clause-meets : goal.returns-in-Err-close-clause-meets
returns-in-Err-close-clause-meets g c starts version steps stands e =
    let p = c.in-Ok.ensures.ends version steps stands.sources in
    stops_by (terminate_closes c.args.reason) stands p.1 e p.0 p.2 (c.chosen-chosen.ensures.source _ p.1) c.chosen-chosen.ensures.within
    starts _ _ _ _ _ _ _ c.close.ensures.stage c.in-Err-close.ensures.closes

pub returns-in-Ok-put_control-clause-meets : goal.returns-in-Ok-put_control-clause-meets
returns-in-Ok-put_control-clause-meets g c starts version steps stands e =
    let p = c.in-Ok.ensures.ends version steps stands.sources in
    closed_meets _ _ starts steps _ _ _ _ _ _ (terminate_closes c.args.reason)
    (closed_by (terminate_closes c.args.reason) stands p.1 e p.0 p.2 (c.chosen-chosen.ensures.source _ p.1) c.chosen-chosen.ensures.within
    starts _ _ _ _ _ c.close.ensures.stage c.in-Ok-close.ensures.closes)
    (c.in-Ok-put_control.ensures.ok ∙ ap (λ octets. c.close.new.text ++ control_line octets) p.3)

pub returns-in-Err-put_control-clause-meets : goal.returns-in-Err-put_control-clause-meets
returns-in-Err-put_control-clause-meets g c starts version steps stands e =
    let p = c.in-Ok.ensures.ends version steps stands.sources in
    closed_wants _ starts steps c.close.new.self c.args.text.now c.close.new.text _ _
    (closed_by (terminate_closes c.args.reason) stands p.1 e p.0 p.2 (c.chosen-chosen.ensures.source _ p.1) c.chosen-chosen.ensures.within
    starts c.close.new.self c.args.text.now c.close.new.text _ _ c.close.ensures.stage c.in-Ok-close.ensures.closes)

pub returns-in-Err-close-clause-unassigned : goal.returns-in-Err-close-clause-unassigned
returns-in-Err-close-clause-unassigned g c steps stands =
    others_stay (terminate_closes c.args.reason) stands (c.in-Ok.ensures.ends 0 steps stands.sources).1 _ _ c.close.ensures.others

pub returns-in-Ok-put_control-clause-unassigned : goal.returns-in-Ok-put_control-clause-unassigned
returns-in-Ok-put_control-clause-unassigned g c steps stands =
    others_stay (terminate_closes c.args.reason) stands (c.in-Ok.ensures.ends 0 steps stands.sources).1 _ _ c.close.ensures.others

pub returns-in-Err-put_control-clause-unassigned : goal.returns-in-Err-put_control-clause-unassigned
returns-in-Err-put_control-clause-unassigned g c steps stands =
    others_stay (terminate_closes c.args.reason) stands (c.in-Ok.ensures.ends 0 steps stands.sources).1 _ _ c.close.ensures.others
