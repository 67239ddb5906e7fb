use Rattle.std.proofs.Common.{Some}
use Rattle.relay_role.specs.State.Flushing.{Offered}
use Rattle.relay_role.proofs.flush.offer_all.Given as goal

abbrev pub invariant-units : goal.invariant-units
invariant-units l =
    record { so_far : Offered l.to l.number l.initial.waiting.items l.waiting.items l.dropped (Some l.initial.source) (Some l.source) }
