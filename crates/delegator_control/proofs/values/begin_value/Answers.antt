use Rattle.delegator_control.proofs.Prelude.{laid, fields_of, prefix_fields, length, arith}
use Rattle.delegator_control.proofs.values.begin_value.Goals as goal

pub returns-clause-prefix : goal.returns-clause-prefix
returns-clause-prefix c = grind (arith, laid, prefix_fields, fields_of, length)
