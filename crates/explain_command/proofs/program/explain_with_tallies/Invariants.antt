use Rattle.explain_command.proofs.Prelude.{◌≡◌, true, None, map, replicate, fresh}
use Rattle.explain_command.proofs.program.explain_with_tallies.OwnLists.{own-1}
use Rattle.explain_command.proofs.program.explain_with_tallies.Given as goal

abbrev pub invariant-boxes : goal.invariant-boxes
invariant-boxes g l = map (λ z. (own-1.entry z.vtable).1.account z.value) l.outlets.items ≡ replicate l.counter (fresh true 0 None)
