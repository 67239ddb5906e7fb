use Rattle.pacs_records.proofs.Prelude.{arith}
use Rattle.pacs_records.proofs.requirements.has_frequency.Goals as goal

pub returns-then-code-le16 : goal.returns-then-code-le16
returns-then-code-le16 c = grind arith
