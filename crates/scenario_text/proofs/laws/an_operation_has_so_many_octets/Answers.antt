use Rattle.scenario_text.proofs.Operations.{add_length, modify_length}
use Rattle.scenario_text.proofs.laws.an_operation_has_so_many_octets.Goals as goal

pub returns-clause-add : goal.returns-clause-add
returns-clause-add c = add_length

pub returns-clause-modify : goal.returns-clause-modify
returns-clause-modify c = modify_length
