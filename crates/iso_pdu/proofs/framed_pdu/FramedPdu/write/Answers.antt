use Rattle.iso_pdu.proofs.Prelude.{◌≡◌, ◌≤◌, ◌+◌, length, arith, refl, ◌∙◌, ap, take, drop, List, ℕ, framed, parts_in, segments, pdu}
use Rattle.iso_pdu.specs.Reading.{read_of}
use Rattle.iso_pdu.proofs.Packs.{length-packed, payload-packed}
use Rattle.iso_pdu.proofs.PdusRead.{read_of-pdu}
use Rattle.iso_pdu.proofs.framed_pdu.FramedPdu.write.Goals as goal

pub returns-clause-count : goal.returns-clause-count
returns-clause-count c =
    let payload = payload-packed c.self.inside.max_pdu c.self.inside.end c.self.inside.octets c.self.told c.self.invariant in
    rw (← c.self.view_is) (c.write_payload.ensures.count ∙ ap (λ (os : List ℕ). 2 + length os) payload)

pub returns-clause-encoded : goal.returns-clause-encoded
returns-clause-encoded c =
    let payload = payload-packed c.self.inside.max_pdu c.self.inside.end c.self.inside.octets c.self.told c.self.invariant in
    rw (← c.self.view_is) (c.write_payload.ensures.encoded ∙ rw payload refl)

pub returns-clause-read : goal.returns-clause-read
returns-clause-read c =
    let octets = c.self.inside.octets in
    let parts = parts_in (drop 2 (take c.self.inside.end octets)) in
    let payload = payload-packed c.self.inside.max_pdu c.self.inside.end octets c.self.told c.self.invariant in
    let long = length-packed c.self.inside.max_pdu c.self.inside.end octets c.self.told c.self.invariant in
    let within : length (segments parts) ≤ c.self.inside.max_pdu = omega (arith, long, c.self.invariant.within) in
    let encoded : take c.write_payload.result c.write_payload.new.into ≡ pdu (framed parts) = c.write_payload.ensures.encoded ∙ rw payload refl in
    rw (← c.self.view_is) (ap (read_of c.self.inside.max_pdu) encoded ∙ read_of-pdu c.self.inside.max_pdu (framed parts) within)
