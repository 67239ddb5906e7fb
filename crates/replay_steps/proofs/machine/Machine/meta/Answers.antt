use Rattle.replay_steps.proofs.Prelude.{refl, Meta}
use Rattle.replay_steps.proofs.Stepping.{sources_meet}
use Rattle.replay_steps.proofs.machine.Machine.meta.Goals as goal

pub returns : goal.returns
returns c boxes version steps stands e =
    sources_meet boxes version steps (Meta c.args.metadata.now) c.args.self.now _ c.give_metadata.result
    (record { stage = λ stage. refl; placed = λ v. refl; refusal = λ boxes steps. refl }) refl stands e refl refl refl refl (c.give_metadata.ensures version steps stands.sources)
