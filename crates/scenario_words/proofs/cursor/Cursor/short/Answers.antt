use Rattle.scenario_words.proofs.Prelude.{arith}
use Rattle.scenario_words.proofs.FirstNumber.{number_fits}
use Rattle.scenario_words.proofs.cursor.Cursor.short.Goals as goal

pub returns-clause-found : goal.returns-clause-found
returns-clause-found c = grind (arith, number_fits)
