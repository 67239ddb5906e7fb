use Rattle.receive_state.proofs.Prelude.{le-ltb}
use Rattle.receive_state.proofs.reading.reserved_in_head.Goals as goal

pub returns-else-lent-gt3 : goal.returns-else-lent-gt3
returns-else-lent-gt3 c =
    rw (le-ltb 1 _ c.if-lent-gt1.false, le-ltb 15 _ c.if-lent-gt15.false, le-ltb 4 c.args.lent.now.pa_sync_state c.if-lent-gt4.false, le-ltb 3 _ c.if-lent-gt3.false)
