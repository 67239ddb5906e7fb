use Rattle.group_sink.proofs.Prelude.{◌≤◌, ◌<◌, arith, mul-le}
use Rattle.group_sink.proofs.Offsets.{first_number, offset_fits}
use Rattle.group_sink.proofs.numbers.offset.Goals as goal

pub overflow_mul-result : goal.overflow_mul-result
overflow_mul-result c =
    let near : c.events_ahead.result ≤ 31 = omega (arith, c.events_ahead.ensures.within, c.args.group.now.bounds.horizon) in
    let few : c.from.result ≤ 7 = omega (arith, c.from.ensures, c.args.group.now.widths.bn) in omega (arith, mul-le c.events_ahead.result c.from.result 31 7 near few)

pub overflow_add-result : goal.overflow_add-result
overflow_add-result c =
    let near : c.events_ahead.result ≤ 31 = omega (arith, c.events_ahead.ensures.within, c.args.group.now.bounds.horizon) in
    let few : c.from.result < 8 = omega (arith, c.from.ensures, c.args.group.now.widths.bn) in
    let below : c.from-2.result < c.from.result = omega (arith, c.from-2.ensures, c.from.ensures, c.args.group.now.bounds.bn) in omega (arith, offset_fits c.events_ahead.result c.from.result c.from-2.result near few below)

pub returns : goal.returns
returns c = grind (arith, first_number)
