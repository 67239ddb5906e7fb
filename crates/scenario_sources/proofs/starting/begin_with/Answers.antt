use Rattle.scenario_sources.proofs.Prelude.{◌∙◌, ap, Configured, started}
use Rattle.scenario_sources.proofs.Starts.{begins, finish_fails, group_fails}
use Rattle.scenario_sources.proofs.starting.begin_with.Goals as goal

pub returns-in-Err : goal.returns-in-Err
returns-in-Err c version own h a running may is =
    finish_fails version c.args.first own c.args.described c.args.plain c.in-Err.stop is may c.in-Err.ensures.err

pub returns-in-Err-configure_within : goal.returns-in-Err-configure_within
returns-in-Err-configure_within c version own h a running may is =
    group_fails version c.args.first c.args.limits.horizon own c.args.described c.args.plain c.in-Err-configure_within.kept.fault c.start_stop.result h is may
    c.in-Err-configure_within.ensures.err c.start_stop.ensures

pub returns-in-Ok-start : goal.returns-in-Ok-start
returns-in-Ok-start c version own h a running may is =
    let ready = c.in-Ok-configure_within.ensures.ok.0 in
    begins version c.args.first c.args.limits.ahead own c.args.described c.args.plain c.in-Ok.base c.in-Ok-start.started a running is may c.in-Ok.ensures.ok
    (c.in-Ok-start.ensures.started.0 ∙ ap (λ (s : Configured). s.identity) ready ∙ c.identity_or.ensures)
    (c.in-Ok-start.ensures.started.1 ∙ ap (λ (s : Configured). started s c.args.first) ready)
    (c.in-Ok-start.ensures.announced.0 ∙ ap (λ (s : Configured). s.base) ready)
    (c.in-Ok-start.ensures.announced.1 ∙ ap (λ (s : Configured). s.cipher) ready) c.in-Ok-start.ensures.started.2
