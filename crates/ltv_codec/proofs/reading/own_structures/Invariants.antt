use Rattle.ltv_codec.proofs.Prelude.{length}
use Rattle.ltv_codec.proofs.Loops.{Undecoded}
use Rattle.ltv_codec.proofs.reading.own_structures.Given as goal

abbrev pub invariant-structures : goal.invariant-structures
invariant-structures l = Undecoded l.from l.list l.rest

abbrev pub decreases-structures : goal.decreases-structures
decreases-structures l = length l.rest
