use Rattle.isoal_unframed.proofs.Prelude.{◌≡◌, ◌-◌, ◌++◌, option_copied, slot_pdus}
use Rattle.isoal_unframed.proofs.slots.lay_slot.Given as goal

-- what was laid, and what is left to lay, make up the slot
abbrev pub invariant-places : goal.invariant-places
invariant-places l =
    l.pdus ++ slot_pdus l.group.info.max_pdu (l.end - l.counter) (option_copied l.left)
    ≡ l.initial.pdus ++ slot_pdus l.group.info.max_pdu l.end (option_copied l.unit)
