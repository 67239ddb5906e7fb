use Rattle.delegator_control.proofs.Prelude.{◌≡◌, drop, same_streams}
use Rattle.delegator_control.proofs.operations.are_same_streams.Given as goal

abbrev pub invariant-wishes : goal.invariant-wishes
invariant-wishes l = same_streams (drop l.place l.wishes) (drop l.place l.others) ≡ same_streams l.wishes l.others
