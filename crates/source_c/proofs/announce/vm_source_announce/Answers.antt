use Rattle.std.proofs.Common.{◌≤◌, ◌+◌, length, arith}
use Rattle.source_c.proofs.Parts.{train_is_short}
use Rattle.source_c.proofs.announce.vm_source_announce.Goals as goal

pub put_train-requires : goal.put_train-requires
put_train-requires c = train_is_short _ _ _ _ _ c.in-Ok.made c.in-Ok.ensures.train

pub returns-in_default-clause-room : goal.returns-in_default-clause-room
returns-in_default-clause-room c = λ enough _.
    let made = c.in-Ok.made in
    let short : length made.ext + length made.adv + length made.acad ≤ 512 = train_is_short _ _ _ _ _ made c.in-Ok.ensures.train in
    let some = c.in_default.ensures.fits (omega (arith, short, enough)) in
    absurd cc some
