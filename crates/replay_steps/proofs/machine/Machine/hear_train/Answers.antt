use Rattle.replay_steps.proofs.Prelude.{refl, sym, source_at, histories_of, Train}
use Rattle.replay_steps.proofs.SinkLines.{line_meets}
use Rattle.replay_steps.proofs.StepLaws.{meets_as}
use Rattle.replay_steps.proofs.machine.Machine.hear_train.Goals as goal

pub returns : goal.returns
returns c starts accounts version steps stands e =
    let sink = c.args.head.sink in
    let made = Train sink c.args.head.time c.ext-ext.result.now c.adv-adv.result.now c.acad-acad.result.now in
    meets_as starts steps (Train sink c.args.head.time c.args.self.now.train.ext c.args.self.now.train.adv c.args.self.now.train.acad) made _ c.args.text.now c.train.new.text
    accounts accounts c.train.result
    (λ i. Train sink c.args.head.time (sym c.ext-ext.ensures i) (sym c.adv-adv.ensures i) (sym c.acad-acad.ensures i))
    (line_meets starts accounts version sink steps made c.args.self.now _ c.args.text.now c.train.new.text c.train.result stands e tt refl refl refl refl
    (c.train.ensures (histories_of steps) (source_at steps) (c.origin-origin.ensures steps stands) stands.sinks))
