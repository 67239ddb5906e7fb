use Rattle.scenario_sinks.proofs.Prelude.{◌≡◌, ◌++◌, map, range_with_len, Histories, EntriesAre, sums_where}
use Rattle.scenario_sinks.proofs.sums.put_sums.Given as goal

abbrev pub invariant-sinks : goal.invariant-sinks
invariant-sinks g l = (past : Histories) → EntriesAre past l.sinks
    → l.text ≡ l.initial.text ++ sums_where (map (λ b. (goal.Outlet-dyn g (b.vtable, b.value)).account b.value) l.outlets.items) past.boxes (range_with_len 0 l.number)
