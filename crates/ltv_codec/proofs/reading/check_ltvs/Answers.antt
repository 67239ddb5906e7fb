use Rattle.ltv_codec.proofs.Prelude.{arith}
use Rattle.ltv_codec.proofs.Loops.{checked_list, checked_are, checked_cut}
use Rattle.ltv_codec.proofs.reading.check_ltvs.Goals as goal

pub returns-clause-list : goal.returns-clause-list
returns-clause-list c = checked_list c.args.from.now c.check_structures.result (λ i. omega (arith, c.type_inv.from i)) c.check_structures.ensures

pub returns-clause-ltvs : goal.returns-clause-ltvs
returns-clause-ltvs c = checked_are c.args.from.now c.check_structures.result (λ i. omega (arith, c.type_inv.from i)) c.check_structures.ensures

pub returns-clause-cut : goal.returns-clause-cut
returns-clause-cut c = checked_cut c.args.from.now c.check_structures.result (λ i. omega (arith, c.type_inv.from i)) c.check_structures.ensures
