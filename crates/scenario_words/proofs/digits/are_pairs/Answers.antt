use Rattle.scenario_words.proofs.Prelude.{arith}
use Rattle.scenario_words.proofs.DigitPairs.{refused}
use Rattle.scenario_words.proofs.digits.are_pairs.Goals as goal

pub returns-clause-no : goal.returns-clause-no
returns-clause-no c = grind (arith, refused)
