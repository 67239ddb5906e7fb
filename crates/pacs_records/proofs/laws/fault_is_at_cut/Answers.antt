use Rattle.pacs_records.proofs.Cuts.{fault_met}
use Rattle.pacs_records.proofs.Stops.{value_stops}
use Rattle.pacs_records.proofs.laws.fault_is_at_cut.Goals as goal

pub returns : goal.returns
returns c fault octets fits told = (value_stops fault octets fits, fault_met fault octets told)
