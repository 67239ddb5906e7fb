use Rattle.isoal_framed.proofs.Prelude.{◌≡◌, map, replicate, None, entry_in, All, IsPduOrNothing}
use Rattle.isoal_framed.specs.declared.place.Place.{Place}
use Rattle.isoal_framed.proofs.place.Places.new.Given as goal

abbrev pub invariant-places : goal.invariant-places
invariant-places l = record {
  capacity : l.ring.capacity ≡ l.count;
  filled : map (entry_in l.max_pdu) l.ring.items ≡ replicate l.counter None;
  entries : All (λ (place : Place). IsPduOrNothing l.max_pdu place.count place.octets.items) l.ring.items;
}
