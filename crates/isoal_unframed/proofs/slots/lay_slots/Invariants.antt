use Rattle.isoal_unframed.proofs.Prelude.{◌≡◌, flat_map, range_with_len, slice_get, per_unit_of, slot_pdus}
use Rattle.isoal_unframed.proofs.slots.lay_slots.Given as goal

abbrev pub invariant-slots : goal.invariant-slots
invariant-slots l =
    l.pdus ≡ flat_map (λ slot. slot_pdus l.group.info.max_pdu (per_unit_of l.group.info) (slice_get l.waiting.items slot)) (range_with_len 0 l.slot)
