use Rattle.ltv_codec.proofs.Loops.{ended, undecoded_next, undecoded_none}
use Rattle.ltv_codec.proofs.reading.own_structures.Goals as goal

pub structures-preserved : goal.structures-preserved
structures-preserved c =
    rw c.in_ok-push.ensures.ok (undecoded_next c.args.from.now c.structures.list c.structures.rest.now c.in-Ok.kind c.in-Ok.value.now c.in-Ok.after.now c.in-Ok.ensures.ok c.structures.invariant)

pub returns-clause-ok : goal.returns-clause-ok
returns-clause-ok c = undecoded_none c.args.from.now c.structures.list c.structures.rest.now c.structures.invariant (ended c.is_empty.result c.structures.rest.now c.is_empty.ensures c.structures-test.false)
