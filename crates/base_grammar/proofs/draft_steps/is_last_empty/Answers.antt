use Rattle.base_grammar.proofs.Prelude.{eqb, is_empty_last, arith}
use Rattle.base_grammar.proofs.Drafts.{last_at}
use Rattle.base_grammar.proofs.draft_steps.is_last_empty.Goals as goal

pub returns-in-len1-up : goal.returns-in-len1-up
returns-in-len1-up c = grind (arith, eqb, is_empty_last, last_at)
