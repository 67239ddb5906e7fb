use Rattle.replay_steps.proofs.Prelude.{◌≡◌, ◌++◌, take, stale_lines}
use Rattle.replay_steps.proofs.stale.put_stale_units.Given as goal

abbrev pub invariant-units : goal.invariant-units
invariant-units l = l.text ≡ l.initial.text ++ stale_lines (take l.unit-index l.units)
