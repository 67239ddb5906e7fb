use Rattle.ltv_codec.proofs.contexts.contexts_of.Goals as goal

pub returns : goal.returns
returns c = c.short_of.ensures
