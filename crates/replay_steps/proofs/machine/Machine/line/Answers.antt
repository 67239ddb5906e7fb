use Rattle.replay_steps.proofs.Prelude.{refl, sym, ◌∙◌, ap, steps_of, stage_in, said_of, version_of, airs_of}
use Rattle.replay_steps.proofs.LineLaws.{line_meets, lines_beside}
use Rattle.replay_steps.proofs.StepLaws.{goes_on_in, meets_step, stands_beside}
use Rattle.replay_steps.proofs.machine.Machine.line.Goals as goal

pub returns-in-Ok-Some-clause-meets : goal.returns-in-Ok-Some-clause-meets
returns-in-Ok-Some-clause-meets g c starts lines stand =
    let reads = rw c.in-Ok-Some.field-0-is at c.in-Ok-Some.ensures.reads in
    let steps = steps_of airs_of lines in
    let e = sym stand.stands.stage ∙ ap stage_in c.in-Running.is in
    line_meets starts lines c.args.line.now _ _ _ c.args.text.now _ _ _ _ stand.boxes refl (reads (version_of (said_of lines)))
    (meets_step starts steps _ _ _ _ _ _ _ (goes_on_in _ steps e)
    (c.frequent.ensures.meets starts _ steps (stands_beside _ _ _ refl refl refl refl stand.stands) e stand.boxes))

pub returns-in-Ok-None-clause-meets : goal.returns-in-Ok-None-clause-meets
returns-in-Ok-None-clause-meets g c starts lines stand =
    c.other_line.ensures.meets starts _ lines (lines_beside _ _ _ _ _ refl refl refl refl stand) (sym stand.stands.stage ∙ ap stage_in c.in-Running.is)

pub returns-in-Ok-None-clause-unassigned : goal.returns-in-Ok-None-clause-unassigned
returns-in-Ok-None-clause-unassigned g c starts lines accounts stand =
    c.other_line.ensures.unassigned starts lines accounts (lines_beside _ _ _ _ _ refl refl refl refl stand)
