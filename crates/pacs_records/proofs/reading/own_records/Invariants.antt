use Rattle.pacs_records.proofs.Prelude.{◌-◌}
use Rattle.pacs_records.specs.Reading.{records_in}
use Rattle.pacs_records.proofs.Loop.{SoFar}
use Rattle.pacs_records.proofs.reading.own_records.Given as goal

abbrev pub invariant-loop : goal.invariant-loop
invariant-loop l = SoFar l.whole l.records (l.count - l.counter) l.rest (records_in l.whole l.count l.from)
