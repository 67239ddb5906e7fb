use Rattle.isoal_framed.proofs.Prelude.{◌≡◌, ◌+◌, ◌++◌, take, drop, sym, subst, arith, All, IsPduOrNothing}
use Rattle.std.proofs.lemmas.List.Elements.{All-append, All-drop, All-take}
use Rattle.isoal_framed.specs.declared.place.Place.{Place}
use Rattle.isoal_framed.proofs.Rings.{kept_turned, none_out, turned_more}
use Rattle.isoal_framed.proofs.place.Places.turn.Goals as goal

pub places-preserved : goal.places-preserved
places-preserved c = grind (arith, turned_more, none_out)

pub returns-clause-kept : goal.returns-clause-kept
returns-clause-kept c = grind (arith, kept_turned)

pub invariant_of-self-clause-entries : goal.invariant_of-self-clause-entries
invariant_of-self-clause-entries c =
    let P = λ (place : Place). IsPduOrNothing c.places.self.max_pdu place.count place.octets.items in
    let was : All P c.args.self.now.ring.items = rw c.places.invariant.max_pdu c.args.self.now.entries in
    let turned : c.push_back.new.self.items ≡ drop (c.places.counter + 1) c.args.self.now.ring.items ++ take (c.places.counter + 1) c.args.self.now.ring.items = grind (arith, turned_more) in
    subst (All P) (sym turned) (All-append P (drop (c.places.counter + 1) c.args.self.now.ring.items) (take (c.places.counter + 1) c.args.self.now.ring.items) (All-drop P (c.places.counter + 1) c.args.self.now.ring.items was) (All-take P (c.places.counter + 1) c.args.self.now.ring.items was))
