use Rattle.pacs_records.proofs.Prelude.{err_from_is_err_and, rest_of, arith}
use Rattle.pacs_records.proofs.Loop.{left_next, left_failed, left_done}
use Rattle.pacs_records.proofs.reading.records_end.Goals as goal

pub returns-in_err-_record-clause-exact : goal.returns-in_err-_record-clause-exact
returns-in_err-_record-clause-exact c = grind (arith, err_from_is_err_and, left_failed, rest_of)

pub loop-preserved : goal.loop-preserved
loop-preserved c = grind (arith, left_next, rest_of)

pub returns-clause-exact : goal.returns-clause-exact
returns-clause-exact c = grind (arith, left_done, rest_of)
