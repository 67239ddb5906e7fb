use Rattle.ltv_codec.proofs.Prelude.{length}
use Rattle.ltv_codec.proofs.Loops.{Unread}
use Rattle.ltv_codec.proofs.reading.check_structures.Given as goal

abbrev pub invariant-structures : goal.invariant-structures
invariant-structures l = Unread l.from l.rest

abbrev pub decreases-structures : goal.decreases-structures
decreases-structures l = length l.rest
