use Rattle.iso_pdu.proofs.Prelude.{◌≡◌, ◌+◌, ◌-◌, length, arith, refl}
use Rattle.iso_pdu.proofs.Packs.{written_anew}
use Rattle.iso_pdu.proofs.framed_pdu.put_segment.Goals as goal

pub returns-clause-put : goal.returns-clause-put
returns-clause-put c first long rest is =
    let offset_is : c.copy_from_slice.new.self ≡ c.args.offset.now = c.copy_from_slice.ensures.after in
    let part_is : c.copy_from_slice-2.new.self ≡ c.args.part.now = c.copy_from_slice-2.ensures.after in
    let whole = c.args.end + 2 + length c.args.offset.now + length c.args.part.now in
    rw (offset_is, part_is)
    (written_anew c.args.octets.now first long rest c.args.end c.args.header (length c.args.offset.now + length c.args.part.now) c.args.offset.now c.args.part.now
    (c.args.end + 2 + length c.args.offset.now) (c.args.end + 2 + length c.args.offset.now - (c.args.end + 2))
    (whole - (c.args.end + 2 + length c.args.offset.now)) (whole - 2)
    c.requires.some (omega (arith, c.told-octets, c.requires.room)) refl (omega arith) (omega arith) is)
