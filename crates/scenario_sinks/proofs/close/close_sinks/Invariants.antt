use Rattle.scenario_sinks.proofs.Prelude.{◌≡◌, ◌+◌, [], map, true, false, Histories, EntriesAre, Between, EntriesFrom, OneBetween, UnassignedSame, calls_of}
use Rattle.scenario_sinks.proofs.close.close_sinks.Given as goal

abbrev pub invariant-sinks : goal.invariant-sinks
invariant-sinks g l = record {
  left : (past : Histories) → EntriesAre past l.initial.sinks → EntriesFrom past l.number l.sinks;
  between : (past : Histories) → EntriesAre past l.initial.sinks → calls_of l.initial.gathered ≡ [] → l.first ≡ 0 → l.end ≡ 8 → l.keeps ≡ false
      → Between past l.source l.event l.number l.sinks l.gathered l.initial.text l.text
      (map (λ b. (goal.Outlet-dyn g (b.vtable, b.value)).account b.value) l.initial.outlets.items)
      (map (λ b. (goal.Outlet-dyn g (b.vtable, b.value)).account b.value) l.outlets.items);
  one : (past : Histories) → EntriesAre past l.initial.sinks → calls_of l.initial.gathered ≡ [] → l.end ≡ l.first + 1 → l.keeps ≡ true
      → OneBetween past l.first l.source l.event l.number l.initial.sinks l.sinks l.gathered l.initial.text l.text
      (map (λ b. (goal.Outlet-dyn g (b.vtable, b.value)).account b.value) l.initial.outlets.items)
      (map (λ b. (goal.Outlet-dyn g (b.vtable, b.value)).account b.value) l.outlets.items);
  others : (past : Histories) → EntriesAre past l.initial.sinks → UnassignedSame past l.initial.outlets.items l.outlets.items;
}
