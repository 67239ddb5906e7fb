use Rattle.bcast_base.proofs.Prelude.{arith}
use Rattle.bcast_base.proofs.bis.Bis.new.Goals as goal

pub returns-else-n-ge1 : goal.returns-else-n-ge1
returns-else-n-ge1 c h = omega arith
