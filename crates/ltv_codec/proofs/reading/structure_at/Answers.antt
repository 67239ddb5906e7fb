use Rattle.ltv_codec.proofs.Prelude.{arith}
use Rattle.ltv_codec.proofs.Lists.{is_short}
use Rattle.ltv_codec.proofs.Loops.{empty_body, full_body}
use Rattle.ltv_codec.proofs.reading.structure_at.Goals as goal

pub returns-in_default-clause-err : goal.returns-in_default-clause-err
returns-in_default-clause-err c = rw c.place_of-place.ensures (is_short _ c.args.rest.now c.requires.more c.in_default.ensures)

pub returns-in_default-body-clause-err : goal.returns-in_default-body-clause-err
returns-in_default-body-clause-err c = rw c.place_of-place.ensures (empty_body _ c.args.rest.now c.in-Some.body.now c.in-Some.after.now c.in-Some.ensures c.in_default-body.len_below)

pub returns-clause-ok : goal.returns-clause-ok
returns-clause-ok c = full_body c.args.rest.now c.in-Some.body.now c.in-Some.after.now (λ i. omega (arith, c.type_inv.rest i)) c.in-Some.ensures c.in-len1-up.len_at_least
