use Rattle.pacs_records.proofs.Prelude.{◌≡◌, drop, last_reason, not_taken}
use Rattle.pacs_records.proofs.matching.first_that_fits.Given as goal

abbrev pub invariant-loop-entry : goal.invariant-loop-entry
invariant-loop-entry l = last_reason l.told (drop l.entry-index l.capability.entries) l.capability l.effective ≡ not_taken l.capability l.effective
