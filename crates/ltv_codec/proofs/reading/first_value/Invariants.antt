use Rattle.ltv_codec.proofs.Prelude.{length}
use Rattle.ltv_codec.proofs.Loops.{Unfound}
use Rattle.ltv_codec.proofs.reading.first_value.Given as goal

abbrev pub invariant-structures : goal.invariant-structures
invariant-structures l = Unfound l.from l.kind l.rest

abbrev pub decreases-structures : goal.decreases-structures
decreases-structures l = length l.rest
