use Rattle.bcast_io.proofs.Prelude.{length, ◌-◌, ◌≡◌, take, ◌≤◌, Appends}
use Rattle.bcast_io.proofs.whole.write_whole.Given as goal

abbrev pub invariant-loop-done : goal.invariant-loop-done
invariant-loop-done g l = record {
  within : l.done ≤ length l.from;
  written : Appends (g.K.ByteSink.contents l.initial.sink) (g.K.ByteSink.contents l.sink) (take l.done l.from);
  none_failed : g.K.ByteSink.faults l.sink ≡ g.K.ByteSink.faults l.initial.sink;
}

abbrev pub decreases-loop-done : goal.decreases-loop-done
decreases-loop-done g l = length l.from - l.done
