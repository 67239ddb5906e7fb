use Rattle.delegator_choices.proofs.Prelude.{◌≤◌, Leads, chosen_of, left_of}
use Rattle.delegator_choices.proofs.choosing.take_of.Given as goal

abbrev pub invariant-indices : goal.invariant-indices
invariant-indices l = record { least : 1 ≤ l.index; leads : Leads (chosen_of l.choice) l.fn.first (left_of l.choice l.index) l.taking }
