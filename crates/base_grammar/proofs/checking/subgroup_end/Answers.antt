use Rattle.base_grammar.proofs.Prelude.{err_from_is_err_and}
use Rattle.base_grammar.proofs.Checks.{subgroup_ends}
use Rattle.base_grammar.proofs.checking.subgroup_end.Goals as goal

pub returns-in_err-head-clause-exact : goal.returns-in_err-head-clause-exact
returns-in_err-head-clause-exact c =
    let p = err_from_is_err_and c.from_residual.result c.from_residual.ensures.1 in
    λ before s. rw (p.1, p.2) (c.in_err-head.ensures.fault before)

pub returns-clause-exact : goal.returns-clause-exact
returns-clause-exact c before s =
    let head = c.in_ok-head.ensures in
    subgroup_ends (λ left. left.now) c.entries_end.result c.entries_end.new.seen before _ _ _ _ _ (head.read before) (head.unread before) (c.entries_end.ensures.exact before s)
