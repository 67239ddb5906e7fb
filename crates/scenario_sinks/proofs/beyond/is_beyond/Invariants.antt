use Rattle.scenario_sinks.proofs.Prelude.{◌≡◌, false}
use Rattle.scenario_sinks.proofs.Beyonds.{some_beyond}
use Rattle.scenario_sinks.proofs.beyond.is_beyond.Given as goal

abbrev pub invariant-places : goal.invariant-places
invariant-places l = some_beyond l.num_bis l.which l.place ≡ false
