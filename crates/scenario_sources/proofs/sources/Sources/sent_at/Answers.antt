use Rattle.scenario_sources.proofs.Prelude.{refl, steps_of_source, IfErr-weaker, IfOk-weaker}
use Rattle.scenario_sources.proofs.Lifting.{phase_read}
use Rattle.scenario_sources.proofs.sources.Sources.sent_at.Goals as goal

pub returns-clause-ok : goal.returns-clause-ok
returns-clause-ok c =
    IfOk-weaker c.heard_in.result _ _ (λ pdu is steps stands. is (steps_of_source c.args.source steps) (phase_read refl c.requires.source c.index.ensures stands)) c.heard_in.ensures.ok

pub returns-clause-err : goal.returns-clause-err
returns-clause-err c =
    IfErr-weaker c.heard_in.result _ _ (λ stop is steps stands. is (steps_of_source c.args.source steps) (phase_read refl c.requires.source c.index.ensures stands)) c.heard_in.ensures.err
