use Rattle.base_grammar.proofs.Prelude.{finish_fault, endpoint, arith}
use Rattle.base_grammar.proofs.Drafts.{finish_is}
use Rattle.base_grammar.proofs.draft.BaseDraft.check.Goals as goal

pub returns : goal.returns
returns c = grind (arith, finish_fault, finish_is, endpoint)
