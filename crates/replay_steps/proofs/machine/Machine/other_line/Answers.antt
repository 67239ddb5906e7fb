use Rattle.replay_steps.proofs.Prelude.{refl, steps_of, airs_of, operation_step, sink_line_step}
use Rattle.replay_steps.proofs.LineLaws.{lines_beside, runs_line}
use Rattle.replay_steps.proofs.StepLaws.{stands_beside}
use Rattle.replay_steps.proofs.machine.Machine.other_line.Goals as goal

pub returns-in-Some-clause-meets : goal.returns-in-Some-clause-meets
returns-in-Some-clause-meets g c starts version lines stand e =
    runs_line starts _ version lines c.args.line.now _ c.say_of_sink.new.self c.args.text.now c.say_of_sink.new.text (sink_line_step c.in-Some.said)
    c.say_of_sink.result stand e c.in-Some.ensures.reads
    (λ accounts. c.say_of_sink.ensures starts accounts version (steps_of airs_of lines) stand.stands e)

pub returns-in-Ok-Some-clause-meets : goal.returns-in-Ok-Some-clause-meets
returns-in-Ok-Some-clause-meets g c starts version lines stand e =
    let read = rw c.in-Ok-Some.field-0-is at c.in-Ok-Some.ensures.reads in
    let steps = steps_of airs_of lines in
    runs_line starts _ version lines c.args.line.now _ c.operate.new.self c.args.text.now c.args.text.now (operation_step c.in-Ok-Some.sink read.0) c.operate.result
    stand e read.2
    (λ accounts. c.operate.ensures starts accounts version steps read.0 c.args.text.now read.1 read.3 (stands_beside steps _ _ refl refl refl refl stand.stands) e)

pub returns-in-Ok-None-clause-meets : goal.returns-in-Ok-None-clause-meets
returns-in-Ok-None-clause-meets g c starts version lines stand e =
    c.later_line.ensures.meets starts version lines (lines_beside _ _ _ _ _ refl refl refl refl stand) e

pub returns-in-Ok-None-clause-unassigned : goal.returns-in-Ok-None-clause-unassigned
returns-in-Ok-None-clause-unassigned g c starts lines accounts stand =
    c.later_line.ensures.unassigned starts lines accounts (lines_beside _ _ _ _ _ refl refl refl refl stand)
