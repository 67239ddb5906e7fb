use Rattle.receive_state.proofs.Prelude.{arith, subst, Answers}
use Rattle.receive_state.specs.Reading.{told}
use Rattle.receive_state.proofs.CutStates.{gave_fault}
use Rattle.receive_state.proofs.Judged.{is_read, gave_state}
use Rattle.receive_state.proofs.reading.decode_state_over.Goals as goal

pub returns-clause-layout : goal.returns-clause-layout
returns-clause-layout c = gave_state c.read_value.result c.args.from.now (λ i. omega (arith, c.type_inv.from i)) c.read_value.ensures.exact

pub returns-clause-only : goal.returns-clause-only
returns-clause-only c state s = subst (Answers told c.read_value.result) (is_read state c.args.from.now s) c.read_value.ensures.exact

pub returns-clause-fault : goal.returns-clause-fault
returns-clause-fault c = gave_fault c.read_value.result c.args.from.now (λ i. omega (arith, c.type_inv.from i)) c.read_value.ensures.exact c.read_value.ensures.memory
