use Rattle.delegator_choices.proofs.Prelude.{◌≡◌, ◌-◌, least_unused}
use Rattle.delegator_history.specs.Writes.{unused_from}
use Rattle.delegator_choices.proofs.search.unused_id.Given as goal

abbrev pub invariant-ids : goal.invariant-ids
invariant-ids l = unused_from (l.count - l.source_id) l.source_id l.slots.items ≡ least_unused l.slots.items
