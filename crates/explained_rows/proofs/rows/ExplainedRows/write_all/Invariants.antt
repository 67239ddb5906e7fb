use Rattle.explained_rows.proofs.Prelude.{◌≡◌, ◌≤◌, ◌-◌, length, take, Appends, Keeps, lines_at, told_at}
use Rattle.explained_rows.proofs.rows.ExplainedRows.write_all.Given as goal

abbrev pub invariant-loop-done : goal.invariant-loop-done
invariant-loop-done g l = record {
  within : l.done ≤ length l.octets;
  written : Appends (told_at l.initial.self.place (g.W.ByteSink.contents l.initial.self.inner))
      (told_at l.self.place (g.W.ByteSink.contents l.self.inner)) (take l.done l.octets);
  lines : Keeps (lines_at l.initial.self.place (g.W.ByteSink.contents l.initial.self.inner)) (lines_at l.self.place (g.W.ByteSink.contents l.self.inner));
  none_failed : g.W.ByteSink.faults l.self.inner ≡ g.W.ByteSink.faults l.initial.self.inner;
}

abbrev pub decreases-loop-done : goal.decreases-loop-done
decreases-loop-done g l = length l.octets - l.done
