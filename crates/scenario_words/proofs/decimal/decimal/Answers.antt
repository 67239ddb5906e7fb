use Rattle.scenario_words.proofs.Prelude.{length, arith, eqb-true, below_more, get_or, eqb-false}
use Rattle.scenario_words.proofs.Decimals.{no_decimal_is_empty, no_leading_zero, more_value, no_further, is_decimal}
use Rattle.scenario_words.proofs.decimal.decimal.Goals as goal

pub returns-then-is_empty-clause-none : goal.returns-then-is_empty-clause-none
returns-then-is_empty-clause-none c = grind (arith, no_decimal_is_empty, eqb-true)

pub returns-then-has_leading_zero-clause-none : goal.returns-then-has_leading_zero-clause-none
returns-then-has_leading_zero-clause-none c = grind (arith, no_leading_zero)

pub returns-in_default-clause-none : goal.returns-in_default-clause-none
returns-in_default-clause-none c = grind (arith, no_further)

pub loop-digit-preserved : goal.loop-digit-preserved
loop-digit-preserved c = grind (arith, get_or, more_value, below_more)

pub returns-clause-found : goal.returns-clause-found
returns-clause-found c = grind (arith, length, eqb-false, is_decimal)
