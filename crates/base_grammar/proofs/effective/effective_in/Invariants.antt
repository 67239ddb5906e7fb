use Rattle.base_grammar.proofs.Prelude.{◌≡◌, drop, effective_from}
use Rattle.base_grammar.proofs.effective.effective_in.Given as goal

abbrev pub invariant-loop-place : goal.invariant-loop-place
invariant-loop-place l = effective_from l.place l.bis (drop l.place l.subgroups) ≡ effective_from 0 l.bis l.subgroups
