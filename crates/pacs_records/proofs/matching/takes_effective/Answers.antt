use Rattle.pacs_records.proofs.LastReasons.{is_taken, is_refused}
use Rattle.pacs_records.proofs.matching.takes_effective.Goals as goal

pub returns-clause-taken : goal.returns-clause-taken
returns-clause-taken c = is_taken c.first_that_fits.result c.args.capability.now c.args.effective.now c.first_that_fits.ensures

pub returns-clause-refused : goal.returns-clause-refused
returns-clause-refused c = is_refused c.first_that_fits.result c.args.capability.now c.args.effective.now c.first_that_fits.ensures
