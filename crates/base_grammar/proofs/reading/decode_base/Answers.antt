use Rattle.base_grammar.proofs.Prelude.{arith, subst, Answers, told}
use Rattle.base_grammar.proofs.Again.{base_again, found_base}
use Rattle.base_grammar.proofs.Firsts.{found_fault}
use Rattle.base_grammar.proofs.reading.decode_base.Goals as goal

pub returns-clause-base : goal.returns-clause-base
returns-clause-base c = found_base c.args.from.now c.read_or_check.result (λ i. omega (arith, c.type_inv.from i)) c.read_or_check.ensures

pub returns-clause-only : goal.returns-clause-only
returns-clause-only c v b = subst (Answers told c.read_or_check.result) (base_again v c.args.from.now b) c.read_or_check.ensures

pub returns-clause-fault : goal.returns-clause-fault
returns-clause-fault c = found_fault c.args.from.now c.read_or_check.result (λ i. omega (arith, c.type_inv.from i)) c.read_or_check.ensures
