use Rattle.std.proofs.Common.{arith}
use Rattle.layouts_c.proofs.base.streams_of.Goals as goal

pub returns : goal.returns
returns c = λ bis least most.
    let is = c.streams.invariant bis least in
    (λ has. (is.0 has).1, λ named. is.1 (omega (arith, most, c.streams-test.false), named))
