use Rattle.delegator_choices.proofs.Prelude.{◌∙◌, ◌==◌, list_any}
use Rattle.delegator_choices.proofs.Candidates.{entry_stands}
use Rattle.delegator_choices.proofs.choosing.has_stream.Goals as goal

pub returns : goal.returns
returns c =
    c.has_index.ensures ∙ (λ i. list_any (λ entry. entry.bis == c.get.ensures.same i) (c.as_slice.ensures i))
    ∙ entry_stands c.args.bis c.args.subgroup.now.entries
