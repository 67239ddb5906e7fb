use Rattle.base_grammar.proofs.Prelude.{arith}
use Rattle.base_grammar.proofs.Services.{unfound_first, unfound_found, unfound_next, unfound_none}
use Rattle.base_grammar.proofs.ad.first_service_data.Goals as goal

pub structures-init : goal.structures-init
structures-init c = unfound_first c.args.uuid c.args.list.now (λ i. omega (arith, c.type_inv.list i)) c.requires

pub structures-preserved : goal.structures-preserved
structures-preserved c = unfound_next c.args.uuid c.args.list.now c.structures.rest.now c.in-Some.body.now c.in-Some.after.now c.in-Some.ensures c.in_default-service_at.ensures c.structures.invariant

pub returns-in-Some-service_at : goal.returns-in-Some-service_at
returns-in-Some-service_at c = grind (arith, unfound_found)

pub returns : goal.returns
returns c = unfound_none c.args.uuid c.args.list.now c.structures.rest.now c.in_default.ensures c.structures.invariant
