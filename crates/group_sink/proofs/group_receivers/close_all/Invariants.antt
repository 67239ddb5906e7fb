use Rattle.group_sink.proofs.Prelude.{◌≡◌, ◌++◌, length, map, take, drop, flat_map, Caused, HandsOver, owed_by, tick_at}
use Rattle.group_sink.proofs.group_receivers.close_all.Given as goal

abbrev pub invariant-streams : goal.invariant-streams
invariant-streams g l = record {
  places : length l.stream-items ≡ length l.initial.stream-items;
  step : l.stream-items ≡ map (tick_at l.event) (take l.stream-index l.initial.stream-items) ++ drop l.stream-index l.initial.stream-items;
  hands : HandsOver (flat_map (owed_by l.event) (take l.stream-index l.initial.stream-items)) (g.T.UnitTaker.calls l.initial.taker) (g.T.UnitTaker.calls l.taker) l.handed;
  cause : Caused (g.T.UnitTaker.counts l.initial.taker) (g.T.UnitTaker.counts l.taker) l.handed;
}
