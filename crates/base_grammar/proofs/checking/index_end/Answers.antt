use Rattle.base_grammar.proofs.Prelude.{err_from_is_err_and, arith}
use Rattle.base_grammar.proofs.Checks.{index_unread, index_outside, index_twice, index_passed}
use Rattle.base_grammar.proofs.checking.index_end.Goals as goal

pub returns-in_err-number-clause-exact : goal.returns-in_err-number-clause-exact
returns-in_err-number-clause-exact c = grind (arith, err_from_is_err_and, index_unread)

pub returns-in_default-clause-exact : goal.returns-in_default-clause-exact
returns-in_default-clause-exact c = grind (arith, index_outside)

pub returns-then-has-clause-exact : goal.returns-then-has-clause-exact
returns-then-has-clause-exact c = grind (arith, index_twice)

pub returns-clause-exact : goal.returns-clause-exact
returns-clause-exact c = grind (arith, index_passed)
