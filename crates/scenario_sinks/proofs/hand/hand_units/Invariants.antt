use Rattle.scenario_sinks.proofs.Prelude.{◌≡◌, ◌++◌, map, take, OthersSame, accounts_after, unit_lines, handed_of, units_for}
use Rattle.scenario_sinks.proofs.hand.hand_units.Given as goal

abbrev pub invariant-units : goal.invariant-units
invariant-units g l = record {
  text : l.text ≡ l.initial.text ++ unit_lines (units_for l.owner (map handed_of (take l.unit-index l.units)));
  boxes : map (λ b. (goal.Outlet-dyn g (b.vtable, b.value)).account b.value) l.outlets.items
      ≡ accounts_after (map (λ b. (goal.Outlet-dyn g (b.vtable, b.value)).account b.value) l.initial.outlets.items) (units_for l.owner (map handed_of (take l.unit-index l.units)));
  others : OthersSame l.owner.outlet l.initial.outlets.items l.outlets.items;
}
