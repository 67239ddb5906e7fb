use Rattle.iso_pdu.proofs.Prelude.{arith}
use Rattle.iso_pdu.proofs.Packs.{length-packed}
use Rattle.iso_pdu.proofs.framed_pdu.FramedPdu.room.Goals as goal

pub returns-clause-room : goal.returns-clause-room
returns-clause-room c =
    let long = length-packed c.self.inside.max_pdu c.self.inside.end c.self.inside.octets c.self.told c.self.invariant in
    rw (← c.self.view_is) (omega (arith, long))

pub returns-clause-within : goal.returns-clause-within
returns-clause-within c =
    let long = length-packed c.self.inside.max_pdu c.self.inside.end c.self.inside.octets c.self.told c.self.invariant in
    rw (← c.self.view_is) (omega (arith, long, c.self.invariant.within))
