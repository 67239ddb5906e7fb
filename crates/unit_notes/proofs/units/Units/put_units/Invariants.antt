use Rattle.std.proofs.Common.{◌≤◌}
use Rattle.unit_notes.proofs.units.Units.put_units.Given as goal

abbrev pub invariant-loop-end : goal.invariant-loop-end
invariant-loop-end l = l.start ≤ l.end
