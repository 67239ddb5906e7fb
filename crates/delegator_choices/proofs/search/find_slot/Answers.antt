use Rattle.delegator_choices.proofs.search.find_slot.Goals as goal

pub returns-clause-first : goal.returns-clause-first
returns-clause-first c = rw (← c.as_slice.ensures.value) c.find_in.ensures.first
