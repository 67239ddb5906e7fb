use Rattle.base_grammar.proofs.Prelude.{subst, sym, ForSome, last_of, Endpoint, IsConfig, is_lc3}
use Rattle.base_grammar.proofs.Drafts.{with_entry_keeps}
use Rattle.base_grammar.proofs.draft.BaseDraft.bis.Goals as goal

pub invariant_of-self : goal.invariant_of-self
invariant_of-self c =
    with_entry_keeps c.self.inside.delay (record { bis = c.args.bis; config = c.args.config.now }) c.self.inside.subgroups.items c.put_entry.new.subgroups.items c.put_entry.result
    c.self.invariant (subst (λ (v : Endpoint). ForSome (last_of v.subgroups) (λ s. IsConfig (is_lc3 s.codec) c.args.config.now)) (sym c.self.view_is) c.requires)
    c.put_entry.ensures.range c.put_entry.ensures.ok c.put_entry.ensures.err c.put_entry.ensures.refuses
