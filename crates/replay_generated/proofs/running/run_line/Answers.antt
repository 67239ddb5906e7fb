use Rattle.replay_generated.proofs.Prelude.{◌∙◌, ap, Err, plain}
use Rattle.replay_generated.proofs.Runs.{line_failed, line_memory, line_ran, line_refused}
use Rattle.replay_generated.proofs.running.run_line.Goals as goal

pub returns-in-Ok-clause-runs : goal.returns-in-Ok-clause-runs
returns-in-Ok-clause-runs g c =
    λ starts lines made next is run.
    line_ran (plain made) c.run_coming.new.machine _ c.clear.new.self c.run_coming.new.text c.run_coming.result run c.clear.ensures
    (c.run_coming.ensures.meets starts lines made is) c.in-Ok.field-0 c.count.new.counts c.count.result c.in-Ok.is c.count.ensures

pub returns-in-Err-Refused-clause-runs : goal.returns-in-Err-Refused-clause-runs
returns-in-Err-Refused-clause-runs g c =
    λ starts lines made next is run.
    line_refused (plain made) c.run_coming.new.machine _ c.clear.new.self c.run_coming.new.text c.run_coming.result run c.clear.ensures
    (c.run_coming.ensures.meets starts lines made is) c.in-Err-Refused.reason c.args.number c.refuse.new.counts c.refuse.result next (c.in-Err-Refused.is ∙ ap Err c.in-Err-Refused.field-0-is) c.refuse.ensures

pub returns-in-Err-OutletFault-clause-runs : goal.returns-in-Err-OutletFault-clause-runs
returns-in-Err-OutletFault-clause-runs g c =
    λ starts lines made next is run.
    line_failed (plain made) c.run_coming.new.machine _ c.clear.new.self c.run_coming.new.text c.run_coming.result run c.clear.ensures
    (c.run_coming.ensures.meets starts lines made is) c.args.counts.now (c.in-Err-OutletFault.is ∙ ap Err c.in-Err-OutletFault.field-0-is)

pub returns-in-Err-Memory-clause-runs : goal.returns-in-Err-Memory-clause-runs
returns-in-Err-Memory-clause-runs g c =
    λ starts lines made next is run.
    line_memory (plain made) c.run_coming.new.machine _ c.clear.new.self c.run_coming.new.text c.run_coming.result run c.clear.ensures
    (c.run_coming.ensures.meets starts lines made is) c.args.counts.now (c.in-Err-Memory.is ∙ ap Err c.in-Err-Memory.field-0-is)

pub returns-in-Ok-clause-unassigned : goal.returns-in-Ok-clause-unassigned
returns-in-Ok-clause-unassigned g c = λ starts lines run. c.run_coming.ensures.unassigned starts lines _ run.stands

pub returns-in-Err-Refused-clause-unassigned : goal.returns-in-Err-Refused-clause-unassigned
returns-in-Err-Refused-clause-unassigned g c = λ starts lines run. c.run_coming.ensures.unassigned starts lines _ run.stands

pub returns-in-Err-OutletFault-clause-unassigned : goal.returns-in-Err-OutletFault-clause-unassigned
returns-in-Err-OutletFault-clause-unassigned g c = λ starts lines run. c.run_coming.ensures.unassigned starts lines _ run.stands

pub returns-in-Err-Memory-clause-unassigned : goal.returns-in-Err-Memory-clause-unassigned
returns-in-Err-Memory-clause-unassigned g c = λ starts lines run. c.run_coming.ensures.unassigned starts lines _ run.stands
