use Rattle.base_grammar.proofs.Prelude.{indices}
use Rattle.base_grammar.proofs.Loops.{Entering}
use Rattle.base_grammar.proofs.reading.entries_of.Given as goal

abbrev pub invariant-loop : goal.invariant-loop
invariant-loop l = Entering l.whole l.is_lc3 (indices l.subgroups) l.count l.from l.entries l.counter l.rest
