use Rattle.isoal_framed.proofs.Prelude.{◌≡◌, ◌++◌, take, drop}
use Rattle.isoal_framed.proofs.place.Places.turn.Given as goal

abbrev pub invariant-places : goal.invariant-places
invariant-places l = record {
  max_pdu : l.self.max_pdu ≡ l.initial.self.max_pdu;
  capacity : l.self.ring.capacity ≡ l.initial.self.ring.capacity;
  turned : l.self.ring.items ≡ drop l.counter l.initial.self.ring.items ++ take l.counter l.initial.self.ring.items;
}
