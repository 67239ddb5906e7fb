use Rattle.base_grammar.proofs.Prelude.{indices, arith}
use Rattle.base_grammar.proofs.Loops.{entering_next, entering_failed, entering_done}
use Rattle.base_grammar.proofs.reading.entries_of.Goals as goal

pub returns-in-Err-clause-gives : goal.returns-in-Err-clause-gives
returns-in-Err-clause-gives c = grind (arith, entering_failed, indices)

pub loop-preserved : goal.loop-preserved
loop-preserved c = grind (arith, entering_next, indices)

pub returns-clause-gives : goal.returns-clause-gives
returns-clause-gives c = grind (arith, entering_done, indices)
