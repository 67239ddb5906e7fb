use Rattle.std.proofs.Common.{◌≡◌}
use Rattle.std.specs.Prelude.{replicate, None}
use Rattle.assistant_machine.proofs.joined.empty_views.Given as goal

abbrev pub invariant-slots : goal.invariant-slots
invariant-slots l = l.views.items ≡ replicate l.counter None
