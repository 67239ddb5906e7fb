use Rattle.delegator_control.proofs.Prelude.{◌≡◌, ◌<◌, ◌++◌, ◌∙◌, length, get_or, ap, sym, subst, refl, None, nat_lt, option_map, get_or_read_under, encoding, change, received, value, Machine, machine}
use Rattle.delegator_control.proofs.scan_delegator.ScanDelegator.put.Goals as goal

pub returns-then-is_too_long-clause-puts : goal.returns-then-is_too_long-clause-puts
returns-then-is_too_long-clause-puts c =
    let m : Machine = machine c.args.self.now in
    let value = c.in_ok-after.ensures ∙ ap (λ status. encoding (received status c.args.filled)) (c.status_after-status.ensures.same m.snapshot) in
    (sym (ap (λ v. nat_lt 512 (length v)) value) ∙ sym c.is_too_long.ensures ∙ c.if-is_too_long.true, refl, refl)

pub returns-clause-puts : goal.returns-clause-puts
returns-clause-puts c =
    let m : Machine = machine c.args.self.now in
    let now = c.in_ok-after.ensures ∙ ap (λ status. encoding (received status c.args.filled)) (c.status_after-status.ensures.same m.snapshot) in
    let was = c.status_after-before.ensures.same m.snapshot in
    let below : c.from.result < m.setup.slots = subst (λ k. k < m.setup.slots) (sym c.from.ensures) c.requires in
    let entry : c.index-held.result.now ≡ get_or m.snapshot.slots c.args.slot None =
    get_or_read_under m.snapshot.slots c.from.result m.setup.slots c.index-held.result.now None c.index-held.ensures below c.args.self.now.slots.ok.0
    ∙ ap (λ k. get_or m.snapshot.slots k None) c.from.ensures in (
      sym (ap (λ v. nat_lt 512 (length v)) now) ∙ sym c.is_too_long.ensures ∙ c.if-is_too_long.false,
      c.set_slot.ensures.slots,
      c.set_slot.ensures.waiting ∙ c.in_ok-note_value.ensures.ok ∙ (λ i. m.waiting ++ change c.args.slot (value (option_map (received (was i)) (entry i))) (now i)),
    )

pub returns-clause-rest : goal.returns-clause-rest
returns-clause-rest c =
    let m : Machine = machine c.args.self.now in
    c.set_slot.ensures.rest
    ∙ (λ i. record m { snapshot = record m.snapshot { slots = c.set_slot.new.self.slots.items }; waiting = sym c.set_slot.ensures.waiting i })
