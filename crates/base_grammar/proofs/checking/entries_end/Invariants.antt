use Rattle.base_grammar.proofs.Checks.{EntriesSoFar}
use Rattle.base_grammar.proofs.checking.entries_end.Given as goal

abbrev pub invariant-loop : goal.invariant-loop
invariant-loop l = EntriesSoFar l.whole l.is_lc3 l.count l.from l.fn.seen l.counter l.rest l.seen
