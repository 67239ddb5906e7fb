use Rattle.std.proofs.Common.{◌≤◌}
use Rattle.transcript_notes.proofs.rows.is_joined.Given as goal

abbrev pub invariant-loop-end : goal.invariant-loop-end
invariant-loop-end l = l.start ≤ l.end
