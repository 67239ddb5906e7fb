use Rattle.replay_steps.proofs.Prelude.{refl, said_of, steps_of, version_of, airs_of}
use Rattle.replay_steps.proofs.LineLaws.{line_meets}
use Rattle.replay_steps.proofs.StepLaws.{meets_beside}
use Rattle.replay_steps.proofs.machine.Machine.say.Goals as goal

pub returns-clause-meets : goal.returns-clause-meets
returns-clause-meets g c starts lines line stand is =
    let version = version_of (said_of lines) in
    let steps = steps_of airs_of lines in
    let kept = c.lend_spare.new.self in
    line_meets starts lines line version c.args.step kept c.args.text.now c.step-said.new.text _ _ c.step-said.result stand.boxes refl
    ((c.a_line_says_one_step.ensures.says version line c.args.step).0 (is version))
    (meets_beside starts steps c.args.step c.step-said.new.self kept c.args.text.now c.step-said.new.text _ _ c.step-said.result c.lend_spare.ensures.stage
    c.lend_spare.ensures.sources c.lend_spare.ensures.sinks c.lend_spare.ensures.relays (c.step-said.ensures.meets starts steps stand.stands stand.boxes))

pub returns-clause-unassigned : goal.returns-clause-unassigned
returns-clause-unassigned g c starts lines accounts stand = c.step-said.ensures.unassigned (steps_of airs_of lines) stand.stands
