use Rattle.scenario_lines.proofs.Putting.{Left, values_left}
use Rattle.scenario_lines.proofs.values.put_values.Given as goal

abbrev pub invariant-values : goal.invariant-values
invariant-values l = Left (values_left l.values) (values_left l.values 0) l.initial.line l.line l.value-index
