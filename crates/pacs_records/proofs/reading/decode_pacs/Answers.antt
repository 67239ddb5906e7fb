use Rattle.pacs_records.proofs.Prelude.{arith}
use Rattle.pacs_records.proofs.Fields.{is_value, only_value}
use Rattle.pacs_records.proofs.Stops.{is_fault}
use Rattle.pacs_records.proofs.reading.decode_pacs.Goals as goal

pub returns-clause-value : goal.returns-clause-value
returns-clause-value c = is_value c.args.from.now c.decode_records.result (λ i. omega (arith, c.type_inv.from i)) c.decode_records.ensures.exact

pub returns-clause-only : goal.returns-clause-only
returns-clause-only c records p = only_value c.args.from.now c.decode_records.result records c.decode_records.ensures.exact p

pub returns-clause-cut : goal.returns-clause-cut
returns-clause-cut c = is_fault c.args.from.now c.decode_records.result (λ i. omega (arith, c.type_inv.from i)) c.decode_records.ensures.exact c.decode_records.ensures.memory
