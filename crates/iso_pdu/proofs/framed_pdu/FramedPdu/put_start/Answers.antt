use Rattle.iso_pdu.proofs.Prelude.{◌+◌, length, arith, refl}
use Rattle.iso_pdu.proofs.Packs.{put_fits, put_start_packed}
use Rattle.iso_pdu.proofs.framed_pdu.FramedPdu.put_start.Goals as goal

pub invariant_of-self : goal.invariant_of-self
invariant_of-self c =
    let puts = put_start_packed c.self.inside.max_pdu c.self.inside.end c.self.inside.octets c.put_segment-self-inside.result c.put_segment-self-inside.new.octets
    c.args.time_offset c.header_of-header.result c.args.complete c.encode_offset-offset.result c.args.part.now c.args.self.now c.self.view_is c.self.told c.self.invariant
    c.encode_offset-offset.ensures c.header_of-header.ensures c.requires.room c.put_segment-self-inside.ensures.count c.put_segment-self-inside.ensures.put in
    puts.packed

pub returns-clause-put : goal.returns-clause-put
returns-clause-put c =
    let puts = put_start_packed c.self.inside.max_pdu c.self.inside.end c.self.inside.octets c.put_segment-self-inside.result c.put_segment-self-inside.new.octets
    c.args.time_offset c.header_of-header.result c.args.complete c.encode_offset-offset.result c.args.part.now c.args.self.now c.self.view_is c.self.told c.self.invariant
    c.encode_offset-offset.ensures c.header_of-header.ensures c.requires.room c.put_segment-self-inside.ensures.count c.put_segment-self-inside.ensures.put in
    rw (← c.self.view_is, puts.parts) refl

pub returns-clause-room : goal.returns-clause-room
returns-clause-room c =
    let puts = put_start_packed c.self.inside.max_pdu c.self.inside.end c.self.inside.octets c.put_segment-self-inside.result c.put_segment-self-inside.new.octets
    c.args.time_offset c.header_of-header.result c.args.complete c.encode_offset-offset.result c.args.part.now c.args.self.now c.self.view_is c.self.told c.self.invariant
    c.encode_offset-offset.ensures c.header_of-header.ensures c.requires.room c.put_segment-self-inside.ensures.count c.put_segment-self-inside.ensures.put in
    rw (← c.self.view_is) (omega (arith, puts.room))

pub put_segment-self-inside-requires-clause-room : goal.put_segment-self-inside-requires-clause-room
put_segment-self-inside-requires-clause-room c =
    let fits = put_fits c.self.inside.max_pdu c.self.inside.end c.self.inside.octets c.args.self.now (2 + 3 + length c.args.part.now) c.self.view_is c.self.told c.self.invariant (omega (arith, c.requires.room)) in
    omega (arith, fits)
