use Rattle.std.proofs.Common.{refl}
use Rattle.transcript_text.proofs.refusal.number_of.Goals as goal

pub returns-in-BadLine : goal.returns-in-BadLine
returns-in-BadLine c = rw c.in-BadLine.is refl
