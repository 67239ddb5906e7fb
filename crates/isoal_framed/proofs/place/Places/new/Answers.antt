use Rattle.isoal_framed.proofs.Prelude.{sym, ap, subst, arith, All, IsPduOrNothing}
use Rattle.isoal_framed.specs.declared.place.Place.{Place}
use Rattle.isoal_framed.proofs.Rings.{all_last, nothing_read, nothing_there, filled_more, filled_count}
use Rattle.isoal_framed.proofs.place.Places.new.Goals as goal

pub places-preserved : goal.places-preserved
places-preserved c =
    let made : Place = c.in_ok-empty.field-0 in
    let filled = filled_count _ c.places.ring.items c.places.counter c.places.invariant.filled in
    record {
      capacity = grind arith;
      filled = grind (arith, filled_more, nothing_read);
      entries = subst (All (λ (place : Place). IsPduOrNothing c.args.max_pdu place.count place.octets.items)) (sym (ap (λ b. b.items) c.push_back.ensures.items))
          (all_last (λ (place : Place). IsPduOrNothing c.args.max_pdu place.count place.octets.items) c.places.ring.items made c.places.ring.capacity (omega (arith, filled)) c.places.invariant.entries
          (nothing_there c.args.max_pdu made.count made.octets.items c.in_ok-empty.ensures.count));
    }

pub invariant_of-result : goal.invariant_of-result
invariant_of-result c = record { full = grind (arith, filled_count); entries = c.places.invariant.entries }
