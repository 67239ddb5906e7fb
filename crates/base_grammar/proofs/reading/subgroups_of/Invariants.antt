use Rattle.base_grammar.proofs.Loops.{Grouping}
use Rattle.base_grammar.proofs.reading.subgroups_of.Given as goal

abbrev pub invariant-loop : goal.invariant-loop
invariant-loop l = Grouping l.whole l.count l.from l.subgroups.items l.counter l.rest
