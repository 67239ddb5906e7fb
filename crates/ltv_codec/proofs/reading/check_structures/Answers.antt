use Rattle.ltv_codec.proofs.Prelude.{sym}
use Rattle.ltv_codec.proofs.Loops.{ended, unread_next, unread_none}
use Rattle.ltv_codec.proofs.reading.check_structures.Goals as goal

pub structures-preserved : goal.structures-preserved
structures-preserved c = unread_next c.args.from.now c.structures.rest.now c.in_ok-_kind._kind c.in_ok-_kind._value.now c.in_ok-_kind.after.now c.in_ok-_kind.ensures.ok c.structures.invariant

pub returns : goal.returns
returns c = sym (unread_none c.args.from.now c.structures.rest.now c.structures.invariant (ended c.is_empty.result c.structures.rest.now c.is_empty.ensures c.structures-test.false))
