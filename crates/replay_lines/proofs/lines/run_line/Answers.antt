use Rattle.replay_lines.proofs.Prelude.{arith, ◌∙◌, ap, map, Ok, plain, airs_of, listened}
use Rattle.replay_lines.proofs.Endings.{ends_faulted}
use Rattle.replay_lines.proofs.LineSteps.{line_read, line_ahead, step_line}
use Rattle.replay_lines.specs.declared.ending.Ending.TheVariants as endings
use Rattle.replay_lines.proofs.Listening.{told_line, ended_told}
use Rattle.replay_lines.proofs.ReadingOn.{comes_of}
use Rattle.replay_lines.proofs.lines.run_line.Goals as goal

pub returns-in-Err-clause-runs : goal.returns-in-Err-clause-runs
returns-in-Err-clause-runs g c =
    λ starts lines left kept e read run. ended_told airs_of starts _ left _ kept _ g.L.Listener.may_fail endings.ReadFault
    (ends_faulted (rw c.in-Err.is at (c.read_next.ensures.next left lines read)) run)

pub returns-in-Ok-clause-runs : goal.returns-in-Ok-clause-runs
returns-in-Ok-clause-runs g c =
    λ starts lines left kept e read run.
    let boxes = map (λ b. (goal.Outlet-dyn g (b.vtable, b.value)).account b.value) c.args.outlets.now.items in
    let left' = g.S.ByteSource.left c.read_next.new.source in
    ended_told airs_of starts boxes left left' kept (g.K.ByteSink.contents c.end_reading.new.sink) g.L.Listener.may_fail c.end_reading.result
    (c.end_reading.ensures.ends starts lines left left' kept boxes c.read_next.new.reader e
    (rw c.in-Ok.is at (c.read_next.ensures.next left lines read)) run)

pub returns-in-Ok-Line-clause-runs : goal.returns-in-Ok-Line-clause-runs
returns-in-Ok-Line-clause-runs g c =
    λ starts lines left kept e read run.
    let left' = g.S.ByteSource.left c.read_next.new.source in
    let at = line_read c.line.result.now (rw (c.in-Ok-Line.is ∙ ap Ok c.in-Ok-Line.field-0-is) at
    (c.read_next.ensures.next left lines read)) c.line.ensures.value in
    step_line g.L.Listener.may_fail starts lines (plain c.line.result.now) left left' kept (g.K.ByteSink.contents c.hear_step.new.sink)
    c.read_next.new.reader c.hear_step.new.machine _ c.hear_step.result at
    (c.hear_step.ensures.runs starts lines left left' kept e (comes_of at) (line_ahead e at) run)

pub returns-in-Err-clause-told : goal.returns-in-Err-clause-told
returns-in-Err-clause-told g c lines left start e read has = grind arith

pub returns-in-Ok-clause-told : goal.returns-in-Ok-clause-told
returns-in-Ok-clause-told g c =
    λ lines left start e read has.
    c.end_reading.ensures.told lines left (g.S.ByteSource.left c.read_next.new.source) start c.read_next.new.reader e
    (rw c.in-Ok.is at (c.read_next.ensures.next left lines read)) has

pub returns-in-Ok-Line-clause-told : goal.returns-in-Ok-Line-clause-told
returns-in-Ok-Line-clause-told g c =
    λ lines left start e read has.
    let left' = g.S.ByteSource.left c.read_next.new.source in
    let new = listened g.L.Listener.told g.L.Listener.rows c.hear_step.new.listener c.hear_step.new.sink in
    let at = line_read c.line.result.now (rw (c.in-Ok-Line.is ∙ ap Ok c.in-Ok-Line.field-0-is) at
    (c.read_next.ensures.next left lines read)) c.line.ensures.value in
    told_line g.L.Listener.row_of left left' start new lines (plain c.line.result.now) c.read_next.new.reader c.hear_step.result at
    (c.hear_step.ensures.told lines left left' start e (comes_of at) has)
