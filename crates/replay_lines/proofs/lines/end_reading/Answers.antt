use Rattle.replay_lines.proofs.Prelude.{arith, Some, past, too_long, listened, tellings}
use Rattle.replay_lines.proofs.LineSteps.{ended_at, line_past, line_long}
use Rattle.replay_lines.proofs.Listening.{has_kept, told_at, told_text}
use Rattle.replay_lines.proofs.ReadingOn.{comes_of}
use Rattle.replay_lines.proofs.lines.end_reading.Goals as goal

pub returns-in-TextTooLong-clause-ends : goal.returns-in-TextTooLong-clause-ends
returns-in-TextTooLong-clause-ends g c starts lines left left' kept accounts reader e next run = grind (arith, line_past)

pub returns-in-LineTooLong-clause-ends : goal.returns-in-LineTooLong-clause-ends
returns-in-LineTooLong-clause-ends g c starts lines left left' kept accounts reader e next run = grind (arith, line_long)

pub returns-in_default-clause-ends : goal.returns-in_default-clause-ends
returns-in_default-clause-ends g c starts lines left left' kept accounts reader e next run = grind (arith, ended_at)

pub returns-in-TextTooLong-clause-told : goal.returns-in-TextTooLong-clause-told
returns-in-TextTooLong-clause-told g c =
    λ lines left left' start reader e next has.
    let old = listened g.L.Listener.told g.L.Listener.rows c.args.listener.now c.args.sink.now in
    let new = listened g.L.Listener.told g.L.Listener.rows c.args.listener.now c.refuse.new.sink in
    told_at g.L.Listener.row_of left left' start new lines past c.args.number (Some c.refuse.result)
    (rw c.in-TextTooLong.is at next).0 e c.refuse.ensures.at
    (has_kept g.L.Listener.row_of start old (g.L.Listener.rows c.refuse.new.sink) (tellings lines) has c.refuse.ensures.rows)

pub returns-in-LineTooLong-clause-told : goal.returns-in-LineTooLong-clause-told
returns-in-LineTooLong-clause-told g c =
    λ lines left left' start reader e next has.
    let put = c.refuse-in-LineTooLong in
    let old = listened g.L.Listener.told g.L.Listener.rows c.args.listener.now c.args.sink.now in
    let new = listened g.L.Listener.told g.L.Listener.rows c.args.listener.now put.new.sink in
    told_at g.L.Listener.row_of left left' start new lines too_long c.args.number (Some put.result)
    (comes_of (rw c.in-LineTooLong.is at next)) e put.ensures.at
    (has_kept g.L.Listener.row_of start old (g.L.Listener.rows put.new.sink) (tellings lines) has put.ensures.rows)

pub returns-in_default-clause-told : goal.returns-in_default-clause-told
returns-in_default-clause-told g c lines left left' start reader e next has = grind (arith, listened, tellings, ended_at, has_kept, told_text)
