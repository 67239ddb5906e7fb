use Rattle.isoal_framed.proofs.Prelude.{map-set, entry_in, All-set, IsPduOrNothing}
use Rattle.isoal_framed.specs.declared.place.Place.{Place}
use Rattle.isoal_framed.proofs.Rings.{pdu_there}
use Rattle.isoal_framed.proofs.place.Places.put.Goals as goal

pub invariant_of-self-clause-entries : goal.invariant_of-self-clause-entries
invariant_of-self-clause-entries c =
    let P = λ (place : Place). IsPduOrNothing c.args.self.now.max_pdu place.count place.octets.items in
    All-set P c.args.self.now.ring.items c.args.index c.keep.new.self
    (pdu_there c.args.self.now.max_pdu c.keep.new.self.count c.keep.new.self.octets.items c.args.pdu.now c.keep.ensures.octets c.keep.ensures.count c.requires.framed)
    c.args.self.now.entries

pub returns-clause-kept : goal.returns-clause-kept
returns-clause-kept c = cc (map-set (entry_in c.args.self.now.max_pdu) c.args.self.now.ring.items c.args.index c.keep.new.self, c.keep.ensures.octets)
