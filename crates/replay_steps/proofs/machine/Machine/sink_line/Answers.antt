use Rattle.replay_steps.proofs.Prelude.{refl, source_at, histories_of}
use Rattle.replay_steps.proofs.SinkLines.{line_meets}
use Rattle.replay_steps.proofs.machine.Machine.sink_line.Goals as goal

pub returns : goal.returns
returns c starts accounts version steps stands e =
    line_meets starts accounts version c.sink_of-sink.result steps c.args.step c.args.self.now _ c.args.text.now c.line.new.text c.line.result stands e c.requires.line
    c.sink_of-sink.ensures.named refl refl refl (c.line.ensures (histories_of steps) (source_at steps) (c.origin-origin.ensures steps stands) stands.sinks)
