use Rattle.base_grammar.proofs.Prelude.{err_from_is_err_and}
use Rattle.base_grammar.proofs.Checks.{entries_failed, entries_next, entries_passed}
use Rattle.base_grammar.proofs.checking.entries_end.Goals as goal

pub returns-in_err-rest-clause-exact : goal.returns-in_err-rest-clause-exact
returns-in_err-rest-clause-exact c =
    let p = err_from_is_err_and c.from_residual.result c.from_residual.ensures.1 in
    λ before s. rw (p.1, p.2)
    (entries_failed c.args.whole.now c.args.is_lc3 c.args.count c.args.from.now c.args.seen.now c.loop.counter c.loop.rest.now c.loop.seen c.in_err-rest.field-0.0
    c.loop-test.true c.in_err-rest.ensures.exact c.loop.invariant before s)

pub loop-preserved : goal.loop-preserved
loop-preserved c =
    entries_next c.args.whole.now c.args.is_lc3 c.args.count c.args.from.now c.args.seen.now c.loop.counter c.loop.rest.now c.loop.seen c.entry_end.new.seen c.in_ok-rest.rest.now
    c.loop-test.true c.in_ok-rest.ensures.shorter c.in_ok-rest.ensures.exact c.loop.invariant

pub returns-clause-exact : goal.returns-clause-exact
returns-clause-exact c =
    λ before s.
    entries_passed c.args.whole.now c.args.is_lc3 c.args.count c.args.from.now c.args.seen.now c.loop.counter c.loop.rest.now c.loop.seen c.loop-test.false c.loop.invariant before s
