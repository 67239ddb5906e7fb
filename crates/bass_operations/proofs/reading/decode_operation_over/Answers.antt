use Rattle.bass_operations.proofs.Prelude.{arith, subst, Answers, told}
use Rattle.bass_operations.proofs.Causes.{gave_operation, gave_metadata, gave_fault}
use Rattle.bass_operations.proofs.Judged.{is_read}
use Rattle.bass_operations.proofs.reading.decode_operation_over.Goals as goal

pub returns-clause-layout : goal.returns-clause-layout
returns-clause-layout c = gave_operation c.read_operation.result c.args.from.now (λ i. omega (arith, c.type_inv.from i)) c.read_operation.ensures.exact

pub returns-clause-only : goal.returns-clause-only
returns-clause-only c op o = subst (Answers told c.read_operation.result) (is_read op c.args.from.now o) c.read_operation.ensures.exact

pub returns-clause-fault : goal.returns-clause-fault
returns-clause-fault c = gave_fault c.read_operation.result c.args.from.now (λ i. omega (arith, c.type_inv.from i)) c.read_operation.ensures.exact c.read_operation.ensures.memory

pub returns-clause-metadata : goal.returns-clause-metadata
returns-clause-metadata c = gave_metadata c.read_operation.result c.args.from.now (λ i. omega (arith, c.type_inv.from i)) c.read_operation.ensures.exact
