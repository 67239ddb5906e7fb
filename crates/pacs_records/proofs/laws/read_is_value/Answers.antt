use Rattle.pacs_records.proofs.Fields.{value_takes, value_again}
use Rattle.pacs_records.proofs.laws.read_is_value.Goals as goal

pub returns : goal.returns
returns c records octets fits = (value_takes octets records fits, value_again octets records)
