use Rattle.replay_steps.proofs.Prelude.{arith, Ok, refl, ◌∙◌, ap, version_at}
use Rattle.replay_steps.proofs.LineLaws.{line_meets, lines_beside, none_meets, version_said}
use Rattle.replay_steps.proofs.StepLaws.{stands_beside}
use Rattle.replay_steps.proofs.machine.Machine.any_line.Goals as goal

pub returns-in-Ok-None-clause-meets : goal.returns-in-Ok-None-clause-meets
returns-in-Ok-None-clause-meets g c starts lines stand =
    none_meets starts lines c.args.line.now _ _ c.args.text.now _ (lines_beside starts lines _ _ _ refl refl refl refl stand)
    (c.number-version.ensures ∙ c.version.ensures ∙ ap version_at stand.stands.stage ∙ version_said lines)
    (c.in-Ok-None.ensures.reads ∙ ap (λ o. Ok o) c.in-Ok-None.field-0-is)

pub returns-in-Err-BadLine-clause-meets : goal.returns-in-Err-BadLine-clause-meets
returns-in-Err-BadLine-clause-meets g c starts lines stand =
    grind (arith, c.number-version.ensures ∙ c.version.ensures ∙ ap version_at stand.stands.stage ∙ version_said lines)

pub returns-in-Ok-Some-clause-meets : goal.returns-in-Ok-Some-clause-meets
returns-in-Ok-Some-clause-meets g c starts lines stand = grind (arith, line_meets, version_said, stands_beside)

pub returns-in-Ok-Some-clause-unassigned : goal.returns-in-Ok-Some-clause-unassigned
returns-in-Ok-Some-clause-unassigned g c starts lines accounts stand = grind arith
