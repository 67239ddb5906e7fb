use Rattle.isoal_unframed.proofs.Prelude.{◌≡◌, ◌+◌, ◌-◌, ◌∷◌, ◌++◌, [], suc, List, ℕ, option_copied, arith, ap, sym, ◌∙◌, append_assoc, slot_pdus}
use Rattle.isoal_unframed.proofs.slots.lay_slot.Goals as goal

pub places-preserved : goal.places-preserved
places-preserved c =
    let max_pdu = c.args.group.now.info.max_pdu in
    let count = c.per_unit-end.result - (c.places.counter + 1) in
    let turns : c.per_unit-end.result - c.places.counter ≡ suc count = omega (arith, c.places-test.true) in
    let next = c.next_pdu-next.result in
    let pdu : List ℕ = next.header ++ next.payload.now in
    let rest = option_copied next.rest in
    ap (λ pdus. pdus ++ slot_pdus max_pdu count rest) c.in_ok-push_payload.ensures.ok
    ∙ append_assoc c.places.pdus (pdu ∷ []) (slot_pdus max_pdu count rest)
    ∙ ap (λ pdus. c.places.pdus ++ pdus) (sym (c.next_pdu-next.ensures.goes count))
    ∙ ap (λ n. c.places.pdus ++ slot_pdus max_pdu n (option_copied c.places.left)) (sym turns) ∙ c.places.invariant
