use Rattle.ltv_codec.proofs.Prelude.{eq-eqb, ne_eqb}
use Rattle.ltv_codec.proofs.Loops.{ended, reads, unfound_found, unfound_next, unfound_none}
use Rattle.ltv_codec.proofs.reading.first_value.Goals as goal

pub returns-then-found-kind : goal.returns-then-found-kind
returns-then-found-kind c =
    unfound_found c.args.from.now c.args.kind c.structures.rest.now c.in-Ok.found c.in-Ok.value.now c.in-Ok.after.now (reads c.args.from.now c.requires) (eq-eqb _ _ c.if-found-kind.true)
    c.in-Ok.ensures.ok c.structures.invariant

pub structures-preserved : goal.structures-preserved
structures-preserved c =
    unfound_next c.args.from.now c.args.kind c.structures.rest.now c.in-Ok.found c.in-Ok.value.now c.in-Ok.after.now (reads c.args.from.now c.requires) (ne_eqb _ _ c.if-found-kind.false)
    c.in-Ok.ensures.ok c.structures.invariant

pub returns : goal.returns
returns c = unfound_none c.args.from.now c.args.kind c.structures.rest.now c.structures.invariant (ended c.is_empty.result c.structures.rest.now c.is_empty.ensures c.structures-test.false)
