use Rattle.base_grammar.proofs.Drafts.{with_subgroup_keeps}
use Rattle.base_grammar.proofs.draft.BaseDraft.subgroup.Goals as goal

pub invariant_of-self : goal.invariant_of-self
invariant_of-self c =
    with_subgroup_keeps c.self.inside.delay c.args.codec c.args.config.now c.self.inside.subgroups.items c.open_subgroup.new.subgroups.items c.open_subgroup.result
    c.self.invariant c.open_subgroup.ensures.five c.requires c.open_subgroup.ensures.ok c.open_subgroup.ensures.err c.open_subgroup.ensures.refuses
