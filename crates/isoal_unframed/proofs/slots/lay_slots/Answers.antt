use Rattle.isoal_unframed.proofs.Prelude.{◌≡◌, ◌+◌, ◌++◌, suc, arith, ap, sym, ◌∙◌, refl, slice_get, per_unit_of, slot_pdus}
use Rattle.isoal_unframed.proofs.Rows.{flat_map_one_more}
use Rattle.isoal_unframed.proofs.slots.lay_slots.Goals as goal

pub slots-preserved : goal.slots-preserved
slots-preserved c =
    let info = c.args.group.now.info in
    let slot = c.slots.slot in
    let next : slot + 1 ≡ suc slot = omega arith in
    let at : 0 + slot ≡ slot = omega arith in
    c.in_ok-lay_slot.ensures ∙ ap (λ unit. c.slots.pdus ++ slot_pdus info.max_pdu (per_unit_of info) unit) c.unit_of.ensures
    ∙ ap (λ pdus. pdus ++ slot_pdus info.max_pdu (per_unit_of info) (slice_get c.args.waiting.now.items slot)) c.slots.invariant
    ∙ sym (rw (next, flat_map_one_more (λ j. slot_pdus info.max_pdu (per_unit_of info) (slice_get c.args.waiting.now.items j)) 0 slot, at) refl)
