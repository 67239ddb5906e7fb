use Rattle.isoal_framed.proofs.Prelude.{take, map-set, entry_in, All-set, IsPduOrNothing}
use Rattle.isoal_framed.specs.declared.place.Place.{Place}
use Rattle.isoal_framed.proofs.Rings.{nothing_read, nothing_there}
use Rattle.isoal_framed.proofs.place.Places.clear.Goals as goal

pub invariant_of-self-clause-entries : goal.invariant_of-self-clause-entries
invariant_of-self-clause-entries c =
    let P = λ (place : Place). IsPduOrNothing c.args.self.now.max_pdu place.count place.octets.items in
    All-set P c.args.self.now.ring.items c.args.index c.clear.new.self
    (nothing_there c.args.self.now.max_pdu c.clear.new.self.count c.clear.new.self.octets.items c.clear.ensures.count)
    c.args.self.now.entries

pub returns-clause-kept : goal.returns-clause-kept
returns-clause-kept c =
    cc (map-set (entry_in c.args.self.now.max_pdu) c.args.self.now.ring.items c.args.index c.clear.new.self, nothing_read c.args.self.now.max_pdu (take c.clear.new.self.count c.clear.new.self.octets.items) c.clear.ensures.octets)
