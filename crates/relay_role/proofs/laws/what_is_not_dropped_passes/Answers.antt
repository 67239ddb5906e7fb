use Rattle.relay_role.proofs.Passing.{others_stay, taken_behind, undropped_pass}
use Rattle.relay_role.proofs.laws.what_is_not_dropped_passes.Goals as goal

pub returns-clause-passed : goal.returns-clause-passed
returns-clause-passed c = λ airs to units second. undropped_pass airs to 0 units second

pub returns-clause-taken : goal.returns-clause-taken
returns-clause-taken c = taken_behind

pub returns-clause-others : goal.returns-clause-others
returns-clause-others c = others_stay
