use Rattle.std.proofs.Common.{arith, refl}
use Rattle.radio_schedule.proofs.Window.{in_window}
use Rattle.radio_schedule.proofs.payload.payload_of.Goals as goal

pub returns-then-number-clause-window : goal.returns-then-number-clause-window
returns-then-number-clause-window c =
    let bn_least = c.args.group.now.bounds.bn in
    in_window c.args.group.now.info c.args.event c.events_ahead-ahead.result c.from-2.result _ c.events_ahead-ahead.ensures.within
    (omega arith) (rw c.from.ensures refl)
