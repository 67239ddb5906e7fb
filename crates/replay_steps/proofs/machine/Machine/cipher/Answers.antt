use Rattle.replay_steps.proofs.Prelude.{refl, Cipher}
use Rattle.replay_steps.proofs.Stepping.{sources_meet}
use Rattle.replay_steps.proofs.machine.Machine.cipher.Goals as goal

pub returns : goal.returns
returns c boxes version steps stands e =
    sources_meet boxes version steps (Cipher c.args.cipher.giv c.args.cipher.gskd) c.args.self.now _ c.encrypt.result
    (record { stage = λ stage. refl; placed = λ v. refl; refusal = λ boxes steps. refl }) refl stands e refl refl refl refl (c.encrypt.ensures version steps stands.sources)
