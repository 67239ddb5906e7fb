use Rattle.delegator_choices.proofs.Prelude.{◌≡◌, ◌∙◌, sym, arith}
use Rattle.delegator_choices.proofs.Slots.{unused_free, unused_last, unused_used}
use Rattle.delegator_choices.proofs.search.unused_id.Goals as goal

pub returns-then-not-is_used : goal.returns-then-not-is_used
returns-then-not-is_used c = sym (unused_free _ c.ids.source_id c.args.slots.now.items c.ids-test.true (sym c.is_used.ensures ∙ c.if-not-is_used.true)) ∙ c.ids.invariant

pub ids-preserved : goal.ids-preserved
ids-preserved c = sym (unused_used _ c.ids.source_id c.args.slots.now.items c.ids-test.true (sym c.is_used.ensures ∙ c.if-not-is_used.false)) ∙ c.ids.invariant

pub returns : goal.returns
returns c =
    let end : c.ids.source_id ≡ c.len-count.result = omega (arith, c.ids-test.false, c.ids.auto.source_id-end) in
    sym (unused_last c.len-count.result c.ids.source_id c.args.slots.now.items end) ∙ c.ids.invariant
