use Rattle.bass_operations.proofs.Judged.{read_is, is_read}
use Rattle.bass_operations.proofs.laws.read_is_operation.Goals as goal

pub returns : goal.returns
returns c op octets h = (read_is op octets h, is_read op octets)
