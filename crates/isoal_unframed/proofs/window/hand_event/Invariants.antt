use Rattle.isoal_unframed.proofs.Prelude.{◌≡◌, ◌+◌, ◌*◌, ◌++◌, take, drop, vec_len, kept_of, stay_of, owed_of}
use Rattle.isoal_unframed.proofs.window.hand_event.Given as goal

abbrev pub invariant-slots : goal.invariant-slots
invariant-slots g l = record {
  cells : vec_len l.ring.cells ≡ vec_len l.initial.ring.cells;
  max_pdu : l.ring.max_pdu ≡ l.initial.ring.max_pdu;
  place : l.first ≡ l.initial.first + l.slot * l.places;
  prefix : take l.initial.first (kept_of l.ring) ≡ take l.initial.first (kept_of l.initial.ring);
  behind : drop l.first (kept_of l.ring) ≡ drop l.first (kept_of l.initial.ring);
  handed : g.T.UnitTaker.calls l.taker ≡ g.T.UnitTaker.calls l.initial.taker
      ++ take l.slot (owed_of (stay_of l.stream) l.current.event (drop l.initial.first (kept_of l.initial.ring)));
  counts : g.T.UnitTaker.counts l.taker ≡ g.T.UnitTaker.counts l.initial.taker;
}
