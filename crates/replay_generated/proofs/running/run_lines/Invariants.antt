use Rattle.replay_generated.proofs.Prelude.{◌+◌, ◌≤◌, map, length, lines_made}
use Rattle.replay_generated.proofs.Runs.{Running}
use Rattle.replay_generated.proofs.running.run_lines.Given as goal

abbrev pub invariant-lines : goal.invariant-lines
invariant-lines g l = record {
  running : Running l.initial.outlets.items l.outlets.items
      (map (λ b. (goal.Outlet-dyn g (b.vtable, b.value)).account b.value) l.initial.outlets.items)
      (map (λ b. (goal.Outlet-dyn g (b.vtable, b.value)).account b.value) l.outlets.items)
      (lines_made l.fn.seed l.fn.events) l.lines l.number l.machine l.counts;
  bound : l.number + length l.lines ≤ 500010;
}

abbrev pub decreases-lines : goal.decreases-lines
decreases-lines g l = length l.lines
