use Rattle.delegator_choices.proofs.Prelude.{◌∙◌, ap, is_some}
use Rattle.delegator_choices.proofs.search.is_used.Goals as goal

pub returns : goal.returns
returns c = c.is_some.ensures ∙ ap is_some c.find_slot.ensures.first
