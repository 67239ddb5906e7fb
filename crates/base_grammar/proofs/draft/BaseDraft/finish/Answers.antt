use Rattle.base_grammar.proofs.Prelude.{sym, refl, finish_fault, endpoint, arith}
use Rattle.base_grammar.proofs.Drafts.{draft_done, finish_is}
use Rattle.base_grammar.proofs.draft.BaseDraft.finish.Goals as goal

pub returns-in-Some-clause-refuses : goal.returns-in-Some-clause-refuses
returns-in-Some-clause-refuses c = (sym c.in-Some.ensures, refl)

pub new-requires : goal.new-requires
new-requires c = grind (arith, endpoint, draft_done, finish_is, finish_fault)
