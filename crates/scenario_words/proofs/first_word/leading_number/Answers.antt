use Rattle.scenario_words.proofs.Prelude.{◌+◌, get_or, arith, below_more}
use Rattle.scenario_words.proofs.Decimals.{more_value}
use Rattle.scenario_words.proofs.FirstNumber.{more_small, few_fit}
use Rattle.scenario_words.proofs.first_word.leading_number.Goals as goal

pub overflow_mul-value : goal.overflow_mul-value
overflow_mul-value c =
    let small = more_small c.digits.end c.digits.value _ c.digits.invariant.small c.if-is_ascii_digit.ensures.cases in
    let fits = few_fit (c.digits.end + 1) _ (omega arith) small in
    omega arith

pub overflow_add-value : goal.overflow_add-value
overflow_add-value c =
    let small = more_small c.digits.end c.digits.value _ c.digits.invariant.small c.if-is_ascii_digit.ensures.cases in
    let fits = few_fit (c.digits.end + 1) _ (omega arith) small in
    omega arith

pub digits-preserved : goal.digits-preserved
digits-preserved c = grind (arith, get_or, more_value, more_small, below_more)
