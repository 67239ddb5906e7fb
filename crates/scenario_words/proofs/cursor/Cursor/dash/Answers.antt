use Rattle.scenario_words.proofs.Prelude.{arith}
use Rattle.scenario_words.proofs.FirstNumber.{dash_before_space}
use Rattle.scenario_words.proofs.cursor.Cursor.dash.Goals as goal

pub returns-clause-found : goal.returns-clause-found
returns-clause-found c = grind (arith, dash_before_space)
