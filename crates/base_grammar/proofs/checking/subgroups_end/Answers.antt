use Rattle.base_grammar.proofs.Prelude.{err_from_is_err_and, arith}
use Rattle.base_grammar.proofs.Checks.{subgroups_failed, subgroups_next, subgroups_passed}
use Rattle.base_grammar.proofs.checking.subgroups_end.Goals as goal

pub returns-in_err-rest-clause-exact : goal.returns-in_err-rest-clause-exact
returns-in_err-rest-clause-exact c =
    let p = err_from_is_err_and c.from_residual.result c.from_residual.ensures.1 in
    rw (p.1, p.2)
    (subgroups_failed c.args.whole.now c.args.count c.args.from.now c.loop.counter c.loop.rest.now c.loop.seen c.in_err-rest.field-0.0
    c.loop-test.true c.in_err-rest.ensures.exact c.loop.invariant)

pub loop-preserved : goal.loop-preserved
loop-preserved c = grind (arith, subgroups_next)

pub returns-clause-exact : goal.returns-clause-exact
returns-clause-exact c =
    subgroups_passed c.args.whole.now c.args.count c.args.from.now c.loop.counter c.loop.rest.now c.loop.seen c.loop-test.false c.loop.invariant
