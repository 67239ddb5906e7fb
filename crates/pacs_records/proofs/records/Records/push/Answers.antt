use Rattle.pacs_records.proofs.records.Records.push.Goals as goal

pub returns-clause-fits : goal.returns-clause-fits
returns-clause-fits c = rw (← c.size_with-size.ensures) c.if-size-gt-GREATEST_VALUE.false
