use Rattle.pacs_records.proofs.Whole.{has_count, records_ok, owned}
use Rattle.pacs_records.proofs.reading.own_value.Goals as goal

pub unreachable-requires : goal.unreachable-requires
unreachable-requires c = has_count c.args.from.now c.requires c.in_default.ensures

pub own_records-requires-clause-read : goal.own_records-requires-clause-read
own_records-requires-clause-read c = records_ok c.args.from.now c.in-Some.count c.in-Some.rest.now c.in-Some.ensures c.requires

pub returns-clause-ok : goal.returns-clause-ok
returns-clause-ok c = owned c.args.from.now c.in-Some.count c.in-Some.rest.now c.own_records.result c.in-Some.ensures c.requires c.own_records.ensures.ok
