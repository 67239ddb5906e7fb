use Rattle.scenario_words.proofs.Prelude.{append_assoc, arith}
use Rattle.scenario_words.proofs.Numerals.{one_digit, two_digits, three_digits}
use Rattle.scenario_words.proofs.waiting.Waiting.extend_small.Goals.{then-number-ge10, then-number-ge100, else-number-ge100, else-number-ge10}
use Rattle.scenario_words.proofs.waiting.Waiting.extend_small.Goals as goal

pub returns-clause-puts : goal.returns-clause-puts
returns-clause-puts c =
    elim c.if-number-ge10.branch [
      | then-number-ge10 w ↦ elim w.if-number-ge100.branch [
        | then-number-ge100 w' ↦ grind (arith, append_assoc, three_digits)
        | else-number-ge100 w' ↦ grind (arith, append_assoc, two_digits)
      ]
      | else-number-ge10 w ↦ grind (arith, one_digit)
    ]
