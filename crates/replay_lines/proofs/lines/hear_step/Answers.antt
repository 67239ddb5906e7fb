use Rattle.replay_lines.proofs.Prelude.{◌∷◌, inl, inr, plain, listened}
use Rattle.replay_lines.proofs.Listening.{has_run, told_at, told_before, broken_before, failed_told, run_kept, step_told, wanted_told}
use Rattle.replay_lines.proofs.lines.hear_step.Goals as goal

pub returns-in-Ok-clause-runs : goal.returns-in-Ok-clause-runs
returns-in-Ok-clause-runs g c =
    λ starts lines left left' kept e comes ahead run.
    step_told g.L.Listener.may_fail starts (plain c.args.line.now ∷ lines) left left' kept (g.K.ByteSink.contents c.run_step-ended.new.sink)
    c.run_step-ended.new.machine _ c.run_step-ended.result
    (c.run_step-ended.ensures.runs starts lines left left' kept e comes ahead (run_kept run c.begin_line.ensures.kept))

pub returns-in-Err-Failed-clause-runs : goal.returns-in-Err-Failed-clause-runs
returns-in-Err-Failed-clause-runs g c =
    λ starts lines left left' kept e comes ahead run.
    failed_told g.L.Listener.may_fail c.in-Err-Failed.ensures.allowed (broken_before e comes ahead run c.begin_line.ensures.kept)

pub returns-in-Err-Memory-clause-runs : goal.returns-in-Err-Memory-clause-runs
returns-in-Err-Memory-clause-runs g c =
    λ starts lines left left' kept e comes ahead run.
    wanted_told g.L.Listener.may_fail (broken_before e comes ahead run c.begin_line.ensures.kept)

pub returns-in-Ok-clause-told : goal.returns-in-Ok-clause-told
returns-in-Ok-clause-told g c =
    λ lines left left' start e comes has.
    let row = g.L.Listener.row_of in
    let old = listened g.L.Listener.told g.L.Listener.rows c.args.listener.now c.args.sink.now in
    let new = listened g.L.Listener.told g.L.Listener.rows c.end_line.new.self c.run_step-ended.new.sink in
    told_at row left left' start new lines (plain c.args.line.now) c.args.number c.run_step-ended.result comes e c.run_step-ended.ensures.at
    (has_run row start old lines c.args.number c.args.line.now has e (g.L.Listener.told c.begin_line.new.self) (g.L.Listener.told c.end_line.new.self)
    (g.L.Listener.rows c.begin_line.new.sink) (g.L.Listener.rows c.run_step-ended.new.sink) c.begin_line.ensures.told c.in-Ok.ensures.shown
    c.run_step-ended.ensures.rows c.end_line.ensures.told)

pub returns-in-Err-Failed-clause-told : goal.returns-in-Err-Failed-clause-told
returns-in-Err-Failed-clause-told g c =
    λ lines left left' start e comes has.
    let old = listened g.L.Listener.told g.L.Listener.rows c.args.listener.now c.args.sink.now in
    inr (inr (told_before g.L.Listener.row_of start old lines c.args.number c.args.line.now has e left left' (g.L.Listener.told c.begin_line.new.self)
    (g.L.Listener.rows c.begin_line.new.sink) comes c.begin_line.ensures.told c.in-Err-Failed.ensures.shown))

pub returns-in-Err-Memory-clause-told : goal.returns-in-Err-Memory-clause-told
returns-in-Err-Memory-clause-told g c =
    λ lines left left' start e comes has.
    let old = listened g.L.Listener.told g.L.Listener.rows c.args.listener.now c.args.sink.now in
    inr (inr (inl (told_before g.L.Listener.row_of start old lines c.args.number c.args.line.now has e left left' (g.L.Listener.told c.begin_line.new.self)
    (g.L.Listener.rows c.begin_line.new.sink) comes c.begin_line.ensures.told c.in-Err-Memory.ensures.shown)))
