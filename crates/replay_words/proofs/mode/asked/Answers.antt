use Rattle.std.proofs.Common.{refl}
use Rattle.replay_words.proofs.mode.asked.Goals as goal

pub returns-in-true-false-None-None-clause-meaning : goal.returns-in-true-false-None-None-clause-meaning
returns-in-true-false-None-None-clause-meaning c =
    let arm = c.in-true-false-None-None in
    rw (arm.is-0, arm.is-1, arm.is-2, arm.is-3) refl

pub returns-in-false-false-Some-Some-clause-meaning : goal.returns-in-false-false-Some-Some-clause-meaning
returns-in-false-false-Some-Some-clause-meaning c =
    let arm = c.in-false-false-Some-Some in
    rw (arm.is-0, arm.is-1, arm.is-2, arm.is-3) c.generating.ensures.meaning
