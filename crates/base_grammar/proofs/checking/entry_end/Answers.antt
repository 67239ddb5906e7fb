use Rattle.base_grammar.proofs.Prelude.{err_from_is_err_and, arith}
use Rattle.base_grammar.proofs.Checks.{entry_unindexed, entry_unread, entry_passed}
use Rattle.base_grammar.proofs.checking.entry_end.Goals as goal

pub returns-in_err-rest-clause-exact : goal.returns-in_err-rest-clause-exact
returns-in_err-rest-clause-exact c =
    let p = err_from_is_err_and c.from_residual.result c.from_residual.ensures.1 in
    λ before s. rw (p.1, p.2) (entry_unindexed c.args.whole.now c.args.is_lc3 before c.args.rest.now c.in_err-rest.field-0.0 (c.in_err-rest.ensures.exact before s))

pub returns-in_err-_config-clause-exact : goal.returns-in_err-_config-clause-exact
returns-in_err-_config-clause-exact c =
    let p = err_from_is_err_and c.from_residual-in_err-_config.result c.from_residual-in_err-_config.ensures.1 in
    λ before s. rw (p.1, p.2)
    (entry_unread c.args.whole.now c.args.is_lc3 before c.args.rest.now c.in_ok-rest.rest.now c.index_end.new.seen c.in_err-_config.field-0.0 (c.in_ok-rest.ensures.exact before s)
    c.in_err-_config.ensures.reads)

pub returns-clause-exact : goal.returns-clause-exact
returns-clause-exact c = grind (arith, entry_passed)
