use Rattle.big_info.proofs.Prelude.{arith}
use Rattle.big_info.proofs.Sums.{sum_from-more}
use Rattle.big_info.proofs.Words.{interval, counts, time, unit, channels, payloads}
use Rattle.big_info.proofs.decode.read_fields.Goals as goal

pub returns-clause-number : goal.returns-clause-number
returns-clause-number c =
    let w0 = interval c.word-interval.result c.bits.result c.bits-2.result c.bits-3.result c.bits-4.result c.word-interval.ensures.small c.bits.ensures c.bits-2.ensures c.bits-3.ensures
    c.bits-4.ensures in
    let w1 = counts c.word-counts.result c.bits-5.result c.bits-6.result c.word-counts.ensures.small c.bits-5.ensures c.bits-6.ensures in
    let w2 = time c.word-subevents.result c.bits-7.result c.bits-8.result c.word-subevents.ensures.small c.bits-7.ensures c.bits-8.ensures in
    let w3 = time c.word-spacing.result c.bits-9.result c.bits-10.result c.word-spacing.ensures.small c.bits-9.ensures c.bits-10.ensures in
    let w4 = unit c.word-unit.result c.bits-11.result c.bits-12.result c.word-unit.ensures.small c.bits-11.ensures c.bits-12.ensures in
    let w5 = channels c.word-channels.result c.bits-13.result c.bits-14.result c.word-channels.ensures.small c.bits-13.ensures c.bits-14.ensures in
    let w6 = payloads c.word-payloads.result c.bits-15.result c.bits-16.result c.word-payloads.ensures.small c.bits-15.ensures c.bits-16.ensures in
    let rfu = sum_from-more 12 c.args.from.now (omega (arith, c.requires)) in
    omega (
      arith,
      w0,
      w1,
      w2,
      w3,
      w4,
      w5,
      w6,
      rfu,
      c.word-interval.ensures.joined,
      c.word-counts.ensures.joined,
      c.word-subevents.ensures.joined,
      c.word-spacing.ensures.joined,
      c.word-max_pdu.ensures.joined,
      c.word-seed.ensures.joined,
      c.word-unit.ensures.joined,
      c.word-crc.ensures.joined,
      c.word-channels.ensures.joined,
      c.word-payloads.ensures.joined,
    )
