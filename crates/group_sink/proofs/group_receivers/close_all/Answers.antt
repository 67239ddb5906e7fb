use Rattle.group_sink.proofs.Prelude.{◌∙◌, ap, owed_by, tick_at, arith}
use Rattle.group_sink.proofs.Handing.{caused_more, caused_past, handed_more, handed_past, written_more}
use Rattle.group_sink.proofs.group_receivers.close_all.Goals as goal
use Rattle.group_sink.proofs.group_receivers.close_all.Goals.{in-Ok, in-Err}

pub streams-preserved : goal.streams-preserved
streams-preserved g c = elim c.match-handed.branch [
  | in-Ok w ↦ record {
    places = c.match-handed.auto.stream-items ∙ c.streams.invariant.places;
    step = written_more (tick_at c.args.event) _ c.streams.stream-items _ c.streams.stream-index c.stream-item.result _ c.streams-test.true c.streams.invariant.step c.stream-item.is w.close_by-handed.ensures.step w.stream-items-is;
    hands = handed_more (tick_at c.args.event) (owed_by c.args.event) _ c.streams.stream-items c.streams.stream-index c.stream-item.result _ _ (g.T.UnitTaker.calls w.close_by-handed.new.taker) _ c.streams.handed w.close_by-handed.result _ c.streams-test.true c.streams.invariant.step c.stream-item.is w.in-Ok.field-0 w.in-Ok.is c.streams.invariant.hands w.close_by-handed.ensures.hands (ap g.T.UnitTaker.calls w.taker-is) w.handed-is;
    cause = grind (arith, caused_more);
  }
  | in-Err w ↦ record {
    places = c.match-handed.auto.stream-items ∙ c.streams.invariant.places;
    step = written_more (tick_at c.args.event) _ c.streams.stream-items _ c.streams.stream-index c.stream-item.result _ c.streams-test.true c.streams.invariant.step c.stream-item.is w.skip_by.ensures w.stream-items-is;
    hands = handed_past (tick_at c.args.event) (owed_by c.args.event) _ c.streams.stream-items c.streams.stream-index c.stream-item.result _ _ _ c.streams.handed _ c.streams-test.true c.streams.invariant.step c.stream-item.is w.in-Err.field-0 w.in-Err.is c.streams.invariant.hands (ap g.T.UnitTaker.calls w.taker-is) w.handed-is;
    cause = caused_past _ _ _ c.streams.handed _ c.streams.invariant.cause (ap g.T.UnitTaker.counts w.taker-is) w.handed-is;
  }
]
