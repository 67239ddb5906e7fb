use Rattle.scenario_lines.proofs.Putting.{Left, wishes_left}
use Rattle.scenario_lines.proofs.wishes.put_wishes.Given as goal

abbrev pub invariant-wishes : goal.invariant-wishes
invariant-wishes l = Left (wishes_left l.wishes) (wishes_left l.wishes 0) l.initial.line l.line l.i
