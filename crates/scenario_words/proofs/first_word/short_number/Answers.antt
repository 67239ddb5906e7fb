use Rattle.scenario_words.proofs.Prelude.{arith}
use Rattle.scenario_words.proofs.FirstNumber.{number_alone, number_before_space}
use Rattle.scenario_words.proofs.first_word.short_number.Goals as goal

pub returns-then-end-line-clause-word : goal.returns-then-end-line-clause-word
returns-then-end-line-clause-word c = grind (arith, number_alone)

pub returns-then-line-end-eq32-clause-word : goal.returns-then-line-end-eq32-clause-word
returns-then-line-end-eq32-clause-word c = grind (arith, number_before_space)
