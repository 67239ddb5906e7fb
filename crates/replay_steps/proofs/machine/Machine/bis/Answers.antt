use Rattle.replay_steps.proofs.Prelude.{refl, Bis}
use Rattle.replay_steps.proofs.Stepping.{sources_meet}
use Rattle.replay_steps.proofs.machine.Machine.bis.Goals as goal

pub returns : goal.returns
returns c boxes version steps stands e =
    sources_meet boxes version steps (Bis c.args.bis c.args.config.now) c.args.self.now _ c.add_stream.result
    (record { stage = λ stage. refl; placed = λ v. refl; refusal = λ boxes steps. refl }) refl stands e refl refl refl refl (c.add_stream.ensures version steps stands.sources)
