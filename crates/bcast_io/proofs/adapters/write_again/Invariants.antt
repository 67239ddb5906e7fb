use Rattle.bcast_io.proofs.Prelude.{Keeps}
use Rattle.bcast_io.proofs.adapters.write_again.Given as goal

abbrev pub invariant-turns : goal.invariant-turns
invariant-turns g l = Keeps (g.W.Write.contents l.initial.inner) (g.W.Write.contents l.inner)
