use Rattle.replay_steps.proofs.Prelude.{◌≡◌, List, map, Step, Histories, UnassignedSame, FirstBetween, ComponentsStand}
use Rattle.replay_steps.proofs.machine.Machine.close_sinks.Given as goal

abbrev pub invariant-sinks : goal.invariant-sinks
invariant-sinks g l = record {
  between : (steps : List Step) (past : Histories) → ComponentsStand steps past l.initial.self
      → FirstBetween steps past l.event l.sink l.self l.initial.text l.text
      (map (λ b. (goal.Outlet-dyn g (b.vtable, b.value)).account b.value) l.initial.outlets.items)
      (map (λ b. (goal.Outlet-dyn g (b.vtable, b.value)).account b.value) l.outlets.items);
  others : (steps : List Step) (past : Histories) → ComponentsStand steps past l.initial.self → UnassignedSame past l.initial.outlets.items l.outlets.items;
  stage : l.self.stage ≡ l.initial.self.stage;
}
