use Rattle.std.proofs.Common.{◌≡◌}
use Rattle.test_roles.proofs.relays.hands.Given as goal

abbrev pub invariant-units : goal.invariant-units
invariant-units l = record { to : l.taker.relay.to ≡ l.initial.taker.relay.to }
