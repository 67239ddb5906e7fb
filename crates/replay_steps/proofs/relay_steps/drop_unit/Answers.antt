use Rattle.replay_steps.proofs.Prelude.{◌++◌, ◌∙◌, ap, dropped_line}
use Rattle.replay_steps.proofs.relay_steps.drop_unit.Goals as goal

pub returns-in-Ok : goal.returns-in-Ok
returns-in-Ok c = c.in-Ok.ensures.ok ∙ ap (λ b. c.args.text.now ++ dropped_line c.args.sink b c.args.reason) c.get.ensures.same
