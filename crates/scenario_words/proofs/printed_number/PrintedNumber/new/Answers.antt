use Rattle.scenario_words.proofs.Prelude.{arith, sym, decimal_digit}
use Rattle.scenario_words.proofs.printed_number.PrintedNumber.new.Goals as goal

pub invariant_of-result : goal.invariant_of-result
invariant_of-result c = (omega arith, sym (decimal_digit 0 (omega arith)))
