use Rattle.pacs_records.proofs.Prelude.{◌∙◌, sym, last_reason, at_drop_more}
use Rattle.pacs_records.proofs.matching.first_that_fits.Goals as goal

pub loop-entry-preserved : goal.loop-entry-preserved
loop-entry-preserved c =
    let same = c.as_slice-entry-items.ensures.same in
    let next = at_drop_more (λ entries. last_reason c.loop-entry.told entries c.args.capability.now c.args.effective.now) c.args.capability.now.entries c.loop-entry.entry-index
    c.entry-item.result (rw same at c.loop-entry-test.true) in
    rw (← rw same at c.entry-item.is, sym c.unmet.ensures ∙ c.in-Some.is) at (sym next) ∙ c.loop-entry.invariant
