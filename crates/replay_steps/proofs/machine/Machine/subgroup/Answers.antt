use Rattle.replay_steps.proofs.Prelude.{refl, Subgroup}
use Rattle.replay_steps.proofs.Stepping.{sources_meet}
use Rattle.replay_steps.proofs.machine.Machine.subgroup.Goals as goal

pub returns : goal.returns
returns c boxes version steps stands e =
    sources_meet boxes version steps (Subgroup c.args.codec c.args.config.now) c.args.self.now _ c.open_subgroup.result
    (record { stage = λ stage. refl; placed = λ v. refl; refusal = λ boxes steps. refl }) refl stands e refl refl refl refl (c.open_subgroup.ensures version steps stands.sources)
