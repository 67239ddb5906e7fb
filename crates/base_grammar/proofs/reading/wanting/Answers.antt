use Rattle.base_grammar.proofs.Checks.{fault_refused}
use Rattle.base_grammar.proofs.reading.wanting.Goals as goal

pub returns-in-Err : goal.returns-in-Err
returns-in-Err c = fault_refused c.args.from.now c.in-Err.fault c.in-Err.ensures
