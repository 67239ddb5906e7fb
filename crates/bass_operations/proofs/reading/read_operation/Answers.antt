use Rattle.bass_operations.proofs.Prelude.{sym, ◌∙◌}
use Rattle.bass_operations.proofs.Opcodes.{stopped, started, code_given, remove_given}
use Rattle.bass_operations.proofs.reading.read_operation.Goals as goal

pub returns-in-0-clause-exact : goal.returns-in-0-clause-exact
returns-in-0-clause-exact c = stopped c.args.from.now c.in-len1-up.len_at_least c.in-0.is (sym c.if-is_empty.true ∙ c.is_empty.ensures)

pub returns-in-1-clause-exact : goal.returns-in-1-clause-exact
returns-in-1-clause-exact c = started c.args.from.now c.in-len1-up.len_at_least c.in-1.is c.if-is_empty-2.ensures

pub returns-in-4-clause-exact : goal.returns-in-4-clause-exact
returns-in-4-clause-exact c = code_given c.args.from.now c.code_at.result c.ok_or.result c.in-len1-up.len_at_least c.in-4.is c.code_at.ensures c.ok_or.ensures.value

pub returns-in-5-clause-exact : goal.returns-in-5-clause-exact
returns-in-5-clause-exact c = remove_given c.args.from.now c.remove_at.result c.ok_or-in-5.result c.in-len1-up.len_at_least c.in-5.is c.remove_at.ensures c.ok_or-in-5.ensures.value
