use Rattle.bcast_base.proofs.Prelude.{◌<◌, ◌+◌, ◌*◌, ◌-◌, length, arith, ap, ◌∙◌}
use Rattle.bcast_base.proofs.Places.{one_more_read, small_read, fits_read}
use Rattle.bcast_base.proofs.numbers.read_le.Goals as goal

pub overflow_mul-value : goal.overflow_mul-value
overflow_mul-value c =
    omega (arith, fits_read c.loop-place.place c.loop-place.value 0 (omega (arith, c.requires)) c.loop-place.invariant.small (omega arith))

pub overflow_add-value : goal.overflow_add-value
overflow_add-value c =
    let octet : c.from.result < 256 = omega (arith, c.from.ensures, c.type_inv.from (length c.args.from.now - 1 - c.loop-place.place)) in
    omega (arith, fits_read c.loop-place.place c.loop-place.value c.from.result (omega (arith, c.requires)) c.loop-place.invariant.small octet)

pub loop-place-preserved : goal.loop-place-preserved
loop-place-preserved c =
    let octet : c.from.result < 256 = omega (arith, c.from.ensures, c.type_inv.from (length c.args.from.now - 1 - c.loop-place.place)) in
    record {
      read = ap (λ n. c.loop-place.value * 256 + n) c.from.ensures ∙ one_more_read c.args.from.now c.loop-place.place c.loop-place.value c.loop-place-test.true c.loop-place.invariant.read;
      small = small_read c.loop-place.place c.loop-place.value c.from.result c.loop-place.invariant.small octet;
    }
