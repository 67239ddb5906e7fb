use Rattle.replay_steps.proofs.Prelude.{refl, Ident}
use Rattle.replay_steps.proofs.Stepping.{sources_meet}
use Rattle.replay_steps.proofs.machine.Machine.ident.Goals as goal

pub returns : goal.returns
returns c boxes version steps stands e =
    sources_meet boxes version steps
    (Ident c.args.identity.address_type c.args.identity.address c.args.identity.sid c.args.identity.broadcast_id) c.args.self.now _
    c.identify.result (record { stage = λ stage. refl; placed = λ v. refl; refusal = λ boxes steps. refl }) refl stands e refl refl refl refl
    (c.identify.ensures version steps stands.sources)
