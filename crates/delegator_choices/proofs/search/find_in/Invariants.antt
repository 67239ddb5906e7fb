use Rattle.delegator_choices.proofs.Prelude.{◌≡◌, drop, slot_where}
use Rattle.delegator_choices.specs.State.Slots.{meets}
use Rattle.delegator_choices.proofs.search.find_in.Given as goal

abbrev pub invariant-slots : goal.invariant-slots
invariant-slots l = slot_where (meets l.sought) l.place (drop l.place l.slots) ≡ slot_where (meets l.sought) 0 l.slots
