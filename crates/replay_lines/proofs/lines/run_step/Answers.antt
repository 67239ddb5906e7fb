use Rattle.replay_lines.proofs.Prelude.{◌∙◌, ap, Err}
use Rattle.replay_lines.proofs.LineEndings.{run_ok, run_refused, run_failed, run_faulted, run_memory}
use Rattle.replay_lines.proofs.lines.run_step.Goals as goal

pub returns-in-Ok-clause-runs : goal.returns-in-Ok-clause-runs
returns-in-Ok-clause-runs g c =
    λ starts lines left left' kept e comes ahead run.
    run_ok e comes ahead run c.line.new.self _ c.clear.new.self c.line.new.text c.line.result c.clear.ensures
    (c.line.ensures.meets starts lines) c.in-Ok.field-0 (g.K.ByteSink.contents c.put.new.sink) c.put.result c.in-Ok.is c.put.ensures.puts

pub returns-in-Err-Refused-clause-runs : goal.returns-in-Err-Refused-clause-runs
returns-in-Err-Refused-clause-runs g c =
    λ starts lines left left' kept e comes ahead run.
    run_refused e comes ahead run c.line.new.self _ c.clear.new.self c.line.new.text c.line.result c.clear.ensures
    (c.line.ensures.meets starts lines)
    c.in-Err-Refused.reason (g.K.ByteSink.contents c.refuse.new.sink) c.refuse.result (c.in-Err-Refused.is ∙ ap Err c.in-Err-Refused.field-0-is) c.refuse.ensures.refuses

pub returns-in-Some-clause-runs : goal.returns-in-Some-clause-runs
returns-in-Some-clause-runs g c =
    λ starts lines left left' kept e comes ahead run.
    run_failed e comes ahead run c.line.new.self _ c.clear.new.self c.line.new.text c.line.result c.clear.ensures
    (c.line.ensures.meets starts lines)
    (g.K.ByteSink.contents c.put-in-Err-OutletFault.new.sink) c.put-in-Err-OutletFault.result (c.in-Err-OutletFault.is ∙ ap Err c.in-Err-OutletFault.field-0-is)
    c.put-in-Err-OutletFault.ensures.puts c.in-Some.fault c.in-Some.is

pub returns-in-None-clause-runs : goal.returns-in-None-clause-runs
returns-in-None-clause-runs g c =
    λ starts lines left left' kept e comes ahead run.
    run_faulted e comes ahead run c.line.new.self _ c.clear.new.self c.line.new.text c.line.result c.clear.ensures
    (c.line.ensures.meets starts lines)
    (g.K.ByteSink.contents c.put-in-Err-OutletFault.new.sink) c.put-in-Err-OutletFault.result (c.in-Err-OutletFault.is ∙ ap Err c.in-Err-OutletFault.field-0-is)
    c.put-in-Err-OutletFault.ensures.puts c.in-None.is

pub returns-in-Err-Memory-clause-runs : goal.returns-in-Err-Memory-clause-runs
returns-in-Err-Memory-clause-runs g c =
    λ starts lines left left' kept e comes ahead run.
    run_memory e comes ahead run c.line.new.self _ c.clear.new.self c.line.new.text c.line.result c.clear.ensures
    (c.line.ensures.meets starts lines) (c.in-Err-Memory.is ∙ ap Err c.in-Err-Memory.field-0-is)
