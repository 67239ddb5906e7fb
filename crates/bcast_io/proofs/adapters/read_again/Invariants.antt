use Rattle.bcast_io.proofs.Prelude.{Keeps}
use Rattle.bcast_io.proofs.adapters.read_again.Given as goal

abbrev pub invariant-turns : goal.invariant-turns
invariant-turns g l = Keeps (g.R.Read.remaining l.initial.inner) (g.R.Read.remaining l.inner)
