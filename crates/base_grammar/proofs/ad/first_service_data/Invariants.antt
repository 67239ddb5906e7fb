use Rattle.base_grammar.proofs.Prelude.{length}
use Rattle.base_grammar.proofs.Services.{Unfound}
use Rattle.base_grammar.proofs.ad.first_service_data.Given as goal

abbrev pub invariant-structures : goal.invariant-structures
invariant-structures l = Unfound l.uuid l.list l.rest

abbrev pub decreases-structures : goal.decreases-structures
decreases-structures l = length l.rest
