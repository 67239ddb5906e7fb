use Rattle.ltv_codec.proofs.Prelude.{arith, subst, Answers, told}
use Rattle.ltv_codec.proofs.Lists.{list_read}
use Rattle.ltv_codec.proofs.Loops.{decoded_list, decoded_cut}
use Rattle.ltv_codec.proofs.reading.decode_ltvs.Goals as goal

pub returns-clause-list : goal.returns-clause-list
returns-clause-list c = decoded_list c.args.from.now c.decode_structures.result (λ i. omega (arith, c.type_inv.from i)) c.decode_structures.ensures.exact

pub returns-clause-only : goal.returns-clause-only
returns-clause-only c ltvs l = subst (Answers told c.decode_structures.result) (list_read ltvs c.args.from.now l) c.decode_structures.ensures.exact

pub returns-clause-cut : goal.returns-clause-cut
returns-clause-cut c = decoded_cut c.args.from.now c.decode_structures.result (λ i. omega (arith, c.type_inv.from i)) c.decode_structures.ensures.exact c.decode_structures.ensures.memory
