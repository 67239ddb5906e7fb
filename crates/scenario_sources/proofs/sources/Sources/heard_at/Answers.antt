use Rattle.scenario_sources.proofs.Prelude.{refl, chosen_steps, IfErr-weaker, IfOk-weaker}
use Rattle.scenario_sources.proofs.Lifting.{chosen_read}
use Rattle.scenario_sources.proofs.sources.Sources.heard_at.Goals as goal

pub returns-clause-ok : goal.returns-clause-ok
returns-clause-ok c =
    IfOk-weaker c.heard_in.result _ _ (λ pdu is steps stands. is (chosen_steps steps) (chosen_read refl c.index.ensures stands)) c.heard_in.ensures.ok

pub returns-clause-err : goal.returns-clause-err
returns-clause-err c =
    IfErr-weaker c.heard_in.result _ _ (λ stop is steps stands. is (chosen_steps steps) (chosen_read refl c.index.ensures stands)) c.heard_in.ensures.err
