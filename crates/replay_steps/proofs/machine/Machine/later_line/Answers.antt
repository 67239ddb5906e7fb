use Rattle.replay_steps.proofs.Prelude.{refl, arith, steps_of, airs_of, Train}
use Rattle.replay_steps.proofs.LineLaws.{lines_beside, runs_line}
use Rattle.replay_steps.proofs.StepLaws.{stands_beside}
use Rattle.replay_steps.proofs.machine.Machine.later_line.Goals as goal

pub hear_train-requires-clause-sink : goal.hear_train-requires-clause-sink
hear_train-requires-clause-sink g c = (rw c.in-Ok-Some.field-0-is at c.in-Ok-Some.ensures.sink).0

pub hear_train-requires-clause-time : goal.hear_train-requires-clause-time
hear_train-requires-clause-time g c =
    let h = (rw c.in-Ok-Some.field-0-is at c.in-Ok-Some.ensures.sink).1 in
    omega (arith, h)

pub returns-in-Ok-Some-clause-meets : goal.returns-in-Ok-Some-clause-meets
returns-in-Ok-Some-clause-meets g c starts version lines stand e =
    let reads = rw c.in-Ok-Some.field-0-is at c.in-Ok-Some.ensures.reads in
    let steps = steps_of airs_of lines in
    let room = c.read_train.new.room in
    let head = c.in-Ok-Some.head in
    runs_line starts _ version lines c.args.line.now _ c.hear_train.new.self c.args.text.now c.hear_train.new.text
    (Train head.sink head.time room.ext room.adv room.acad) c.hear_train.result stand e reads
    (λ accounts. c.hear_train.ensures starts accounts version steps (stands_beside steps _ _ refl refl refl refl stand.stands) e)

pub returns-in-Ok-None-clause-meets : goal.returns-in-Ok-None-clause-meets
returns-in-Ok-None-clause-meets g c starts version lines stand e =
    c.any_line.ensures.meets starts lines (lines_beside _ _ _ _ _ refl refl refl refl stand)

pub returns-in-Ok-None-clause-unassigned : goal.returns-in-Ok-None-clause-unassigned
returns-in-Ok-None-clause-unassigned g c starts lines accounts stand =
    c.any_line.ensures.unassigned starts lines accounts (lines_beside _ _ _ _ _ refl refl refl refl stand)
