use Rattle.replay_lines.proofs.Prelude.{◌≡◌, ◌+◌, ◌≤◌, map, text_limit, lines_left, listened}
use Rattle.replay_lines.proofs.LineSteps.{Running}
use Rattle.replay_lines.proofs.Listening.{TellingOn}
use Rattle.replay_lines.proofs.lines.run_lines.Given as goal

abbrev pub invariant-lines : goal.invariant-lines
invariant-lines g l = record {
  running : Running l.initial.outlets.items l.outlets.items
      (map (λ b. (goal.Outlet-dyn g (b.vtable, b.value)).account b.value) l.initial.outlets.items)
      (map (λ b. (goal.Outlet-dyn g (b.vtable, b.value)).account b.value) l.outlets.items)
      (g.S.ByteSource.left l.initial.source) (g.S.ByteSource.left l.source)
      (g.K.ByteSink.contents l.initial.sink) (g.K.ByteSink.contents l.sink) l.number l.reader l.machine;
  telling : TellingOn g.L.Listener.row_of (g.S.ByteSource.left l.initial.source) (g.S.ByteSource.left l.source)
      (listened g.L.Listener.told g.L.Listener.rows l.initial.listener l.initial.sink) (listened g.L.Listener.told g.L.Listener.rows l.listener l.sink)
      l.number l.reader;
  bound : l.number + lines_left l.reader ≤ text_limit + 2;
  reads : g.S.ByteSource.faults l.source ≡ g.S.ByteSource.faults l.initial.source;
  writes : g.K.ByteSink.faults l.sink ≡ g.K.ByteSink.faults l.initial.sink;
}

abbrev pub decreases-lines : goal.decreases-lines
decreases-lines g l = lines_left l.reader
