use Rattle.explained_rows.proofs.Prelude.{◌≡◌, ◌≤◌, ◌-◌, [], length, take, drop, Appends, Keeps, lines_at, lines_told, place_after, told, told_at}
use Rattle.explained_rows.proofs.rows.ExplainedRows.pass.Given as goal

abbrev pub invariant-loop-done : goal.invariant-loop-done
invariant-loop-done g l = record {
  within : l.done ≤ length l.octets;
  place : l.self-inside.place ≡ place_after l.initial.self-inside.place (take l.done l.octets);
  silent : told l.self-inside.place (drop l.done l.octets) ≡ [];
  kept : Keeps (told_at l.initial.self-inside.place (g.W.ByteSink.contents l.initial.self-inside.inner))
      (told_at l.self-inside.place (g.W.ByteSink.contents l.self-inside.inner));
  lines : Appends (lines_at l.initial.self-inside.place (g.W.ByteSink.contents l.initial.self-inside.inner))
      (lines_at l.self-inside.place (g.W.ByteSink.contents l.self-inside.inner)) (lines_told l.initial.self-inside.place (take l.done l.octets));
  whole : Appends (g.W.ByteSink.contents l.initial.self-inside.inner) (g.W.ByteSink.contents l.self-inside.inner) (take l.done l.octets);
  none_failed : g.W.ByteSink.faults l.self-inside.inner ≡ g.W.ByteSink.faults l.initial.self-inside.inner;
}

abbrev pub decreases-loop-done : goal.decreases-loop-done
decreases-loop-done g l = length l.octets - l.done
