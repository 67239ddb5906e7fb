use Rattle.base_grammar.proofs.Checks.{SubgroupsPassed}
use Rattle.base_grammar.proofs.checking.subgroups_end.Given as goal

abbrev pub invariant-loop : goal.invariant-loop
invariant-loop l = SubgroupsPassed l.whole l.count l.from l.counter l.rest l.seen
