use Rattle.scenario_words.proofs.Prelude.{arith}
use Rattle.scenario_words.proofs.DigitPairs.{one_digit_more, all_digits}
use Rattle.scenario_words.proofs.digits.are_digits.Goals as goal

pub digits-preserved : goal.digits-preserved
digits-preserved c = one_digit_more c.args.word.now c.digits.octet-index c.digits.are c.is_digit-are.result (omega arith) c.is_digit-are.ensures c.digits.invariant

pub returns : goal.returns
returns c = all_digits c.args.word.now c.digits.octet-index c.digits.are (omega arith) c.digits.invariant
