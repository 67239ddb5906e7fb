use Rattle.replay_generated.proofs.Prelude.{subst, IsComing, Coming}
use Rattle.replay_generated.proofs.coming.run_coming.Goals as goal

pub returns-in-Said-clause-meets : goal.returns-in-Said-clause-meets
returns-in-Said-clause-meets g c starts lines made is stand =
    let P : Coming → Type 0 = λ coming. IsComing coming c.args.line.now made in
    c.say.ensures.meets starts lines made stand (subst P c.in-Said.is is)
