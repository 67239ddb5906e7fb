use Rattle.std.specs.Prelude.{◌-◌, length}
use Rattle.scenario_text.proofs.MigratedLines.{StartsAt}
use Rattle.scenario_text.proofs.migration.changed_digit.Given as goal

abbrev pub invariant-blanks : goal.invariant-blanks
invariant-blanks l = StartsAt l.text l.start

abbrev pub decreases-blanks : goal.decreases-blanks
decreases-blanks l = length l.text - l.start
