use Rattle.base_grammar.proofs.Prelude.{arith}
use Rattle.base_grammar.proofs.Loops.{grouping_next, grouping_failed, grouping_done}
use Rattle.base_grammar.proofs.reading.subgroups_of.Goals as goal

pub returns-in-Err-clause-gives : goal.returns-in-Err-clause-gives
returns-in-Err-clause-gives c = grind (arith, grouping_failed)

pub loop-preserved : goal.loop-preserved
loop-preserved c = grind (arith, grouping_next)

pub returns-clause-gives : goal.returns-clause-gives
returns-clause-gives c = grind (arith, grouping_done)
