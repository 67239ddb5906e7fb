use Rattle.base_grammar.proofs.Drafts.{with_metadata_keeps}
use Rattle.base_grammar.proofs.draft.BaseDraft.metadata.Goals as goal

pub invariant_of-self : goal.invariant_of-self
invariant_of-self c =
    with_metadata_keeps c.self.inside.delay c.args.from.now c.self.inside.subgroups.items c.put_metadata.new.subgroups.items c.put_metadata.result
    c.self.invariant c.requires c.put_metadata.ensures.ok c.put_metadata.ensures.err c.put_metadata.ensures.refuses
