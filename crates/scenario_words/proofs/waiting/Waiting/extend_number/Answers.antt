use Rattle.scenario_words.proofs.Prelude.{arith}
use Rattle.scenario_words.proofs.Numerals.{number_put}
use Rattle.scenario_words.proofs.waiting.Waiting.extend_number.Goals as goal

pub returns-clause-puts : goal.returns-clause-puts
returns-clause-puts c = grind (arith, number_put)
