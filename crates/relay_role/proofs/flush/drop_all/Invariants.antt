use Rattle.std.proofs.Common.{None}
use Rattle.relay_role.specs.State.Flushing.{Offered}
use Rattle.relay_role.proofs.flush.drop_all.Given as goal

abbrev pub invariant-units : goal.invariant-units
invariant-units l = record { so_far : Offered l.fn.to l.number l.initial.waiting.items l.waiting.items l.dropped None None }
