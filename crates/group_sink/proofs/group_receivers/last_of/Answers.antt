use Rattle.group_sink.proofs.Prelude.{◌<◌, ◌^◌, subst, arith, leading_length}
use Rattle.std.proofs.lemmas.Nat.Bits.{bit_at_above}
use Rattle.group_sink.proofs.group_receivers.last_of.Goals as goal

pub returns-clause-none_above : goal.returns-clause-none_above
returns-clause-none_above c = λ i above inside.
    let small : c.bits.result < 2 ^ 32 = omega arith in
    let top = leading_length 32 c.bits.result small in
    let below : c.args.which < 2 ^ top.0 = subst (λ n. n < 2 ^ top.0) c.bits.ensures top.2 in
    bit_at_above c.args.which top.0 i below (omega (arith, top.1))
