use Rattle.std.proofs.Common.{arith}
use Rattle.isoal_framed.proofs.next.next_act.Goals as goal

pub returns-then-saturating_sub-gt-LAST_OFFSET : goal.returns-then-saturating_sub-gt-LAST_OFFSET
returns-then-saturating_sub-gt-LAST_OFFSET c = grind arith
