use Rattle.source_machine.proofs.Prelude.{◌<◌, ◌/◌, arith, div-lt_iff_lt-mul, sent_at}
use Rattle.source_machine.proofs.Sending.{one_more, sent_here}
use Rattle.source_machine.proofs.stream.sent_pdus.Goals as goal

pub sent-pdu-requires-clause-laid : goal.sent-pdu-requires-clause-laid
sent-pdu-requires-clause-laid c = grind (arith, div-lt_iff_lt-mul)

pub places-preserved : goal.places-preserved
places-preserved c =
    let info = c.args.group.now.info in
    let below : c.places.place / c.from-nse.result < c.from.result = (div-lt_iff_lt-mul (omega (arith, c.args.group.now.bounds.nse))).1 c.places-test.true in
    rw c.in_ok-push.ensures.ok (one_more (sent_at info c.args.streams.now) c.places.pdus c.in_ok-copy.field-0 c.places.place c.places.invariant
    (sent_here info c.args.streams.now c.places.place c.from-nse.result c.from-in-places.result c.index-streams-from.result c.sent-pdu.result.now c.in_ok-copy.field-0
    (omega arith) c.from-in-places.ensures (omega (arith, below)) c.index-streams-from.is c.sent-pdu.ensures c.in_ok-copy.ensures))
