use Rattle.pacs_records.proofs.Prelude.{◌-◌, rest_of}
use Rattle.pacs_records.specs.Reading.{records_in}
use Rattle.pacs_records.proofs.Loop.{Left}
use Rattle.pacs_records.proofs.reading.records_end.Given as goal

abbrev pub invariant-loop : goal.invariant-loop
invariant-loop l = Left l.whole (l.count - l.counter) l.rest (rest_of (records_in l.whole l.count l.from))
