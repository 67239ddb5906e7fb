use Rattle.scenario_words.proofs.Prelude.{arith}
use Rattle.scenario_words.proofs.PairGroups.{groups_fit, groups_beyond}
use Rattle.scenario_words.proofs.cursor.Cursor.groups_into.Goals as goal

pub returns-then-as_slice-most-clause-fault : goal.returns-then-as_slice-most-clause-fault
returns-then-as_slice-most-clause-fault c = grind (arith, groups_beyond)

pub returns-clause-gives : goal.returns-clause-gives
returns-clause-gives c = grind (arith, groups_fit)
