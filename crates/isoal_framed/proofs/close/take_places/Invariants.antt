use Rattle.isoal_framed.proofs.Prelude.{◌≡◌, ◌-◌, length, take, drop, replicate, None, Ok, vec_len, flat_map, tokens_of, run_in, kept_of, stay_of}
use Rattle.isoal_framed.proofs.Joins.{Walked}
use Rattle.isoal_framed.proofs.close.take_places.Given as goal

abbrev pub invariant-places : goal.invariant-places
invariant-places g l = record {
  places : length l.store.places.ring.items ≡ length l.initial.store.places.ring.items;
  max_pdu : l.store.places.max_pdu ≡ l.initial.store.places.max_pdu;
  room : vec_len l.store.undecided.octets ≡ vec_len l.initial.store.undecided.octets;
  cleared : take l.index (kept_of l.store.places) ≡ replicate l.index None;
  left : drop l.index (kept_of l.store.places) ≡ drop l.index (kept_of l.initial.store.places);
  walked : Walked (vec_len l.initial.store.undecided.octets) l.stream.bis (run_in l.initial.store.undecided) (run_in l.store.undecided)
      (flat_map (tokens_of (stay_of l.stream) l.event) (take l.count (kept_of l.initial.store.places)))
      (flat_map (tokens_of (stay_of l.stream) l.event) (take (l.count - l.index) (drop l.index (kept_of l.initial.store.places))))
      (Ok tt) l.handed (g.T.UnitTaker.calls l.initial.taker) (g.T.UnitTaker.calls l.taker)
      (g.T.UnitTaker.counts l.initial.taker) (g.T.UnitTaker.counts l.taker);
}
