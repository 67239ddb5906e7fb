use Rattle.base_grammar.proofs.Prelude.{ap, sym, ◌∙◌, ◌++◌, ◌∷◌, [], ℕ, eqb}
use Rattle.base_grammar.proofs.Drafts.{last_set}
use Rattle.base_grammar.proofs.draft_steps.put_entry.Goals as goal

pub returns-clause-ok : goal.returns-clause-ok
returns-clause-ok c =
    rw (c.in_ok-push.ensures.ok, c.in_ok-config.ensures)
    (last_set (λ s. record s { entries = s.entries ++ record { bis = c.args.bis; config = c.args.config.now } ∷ [] }) c.args.subgroups.now.items c.len-last.result c.index_mut.result.now
    (c.len-last.ensures ∙ c.args.subgroups.now.ok.0)
    (ap (λ (n : ℕ). eqb n 0) c.len-last.ensures ∙ sym c.is_empty.ensures ∙ c.if-is_empty.false) c.index_mut.ensures.value)
