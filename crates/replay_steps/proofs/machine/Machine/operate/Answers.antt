use Rattle.replay_steps.proofs.Prelude.{refl, ◌∙◌, source_at, histories_of, operation_step}
use Rattle.replay_steps.proofs.Operating.{is_line, names, operates}
use Rattle.replay_steps.proofs.SinkLines.{line_meets}
use Rattle.replay_steps.proofs.machine.Machine.operate.Goals as goal

pub returns : goal.returns
returns c starts accounts version steps op text has octets stands e =
    let sink = c.args.sink in
    let made = operation_step sink op in
    line_meets starts accounts version sink steps made c.args.self.now _ text text c.operate.result stands e (is_line sink op has) (names sink op has) refl refl refl
    (c.operate.ensures (histories_of steps) (source_at steps) made text (operates sink op _ has (c.as_slice.ensures ∙ octets)) stands.sinks)
