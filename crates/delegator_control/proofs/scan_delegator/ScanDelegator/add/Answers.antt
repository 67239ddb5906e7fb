use Rattle.delegator_control.proofs.Prelude.{ℕ, ◌≡◌, ◌<◌, ◌∙◌, ap, sym, subst, Option, Some, IfSome, Add, empty_slot, entry_of, Machine, machine, value_at, Stay, written_value, arith}
use Rattle.delegator_history.specs.declared.replies.Cause.TheVariants as causes
use Rattle.delegator_control.proofs.Serving.{refused, add_known, add_full, add_refused, add_accepted, puts_no, puts_yes, same_rest}
use Rattle.delegator_control.proofs.scan_delegator.ScanDelegator.add.Goals as goal

pub returns-then-is_some : goal.returns-then-is_some
returns-then-is_some c =
    let m : Machine = machine c.args.self.now in
    refused (Add c.args.add) m causes.Known c.refused.result
    (add_known m.snapshot c.args.add c.find_slot-known.result c.find_slot-known.ensures.first (sym c.is_some.ensures ∙ c.if-is_some.true)) c.refused.ensures

pub returns-in_default : goal.returns-in_default
returns-in_default c =
    let m : Machine = machine c.args.self.now in
    refused (Add c.args.add) m causes.NoRoom c.refused-in_default.result (grind (arith, add_full)) c.refused-in_default.ensures

pub returns-then-not-fits : goal.returns-then-not-fits
returns-then-not-fits c =
    let m : Machine = machine c.args.self.now in
    let empty : empty_slot m.snapshot.slots ≡ Some c.in-Some.slot = sym c.find_slot-empty.ensures.first ∙ c.in-Some.is in
    let within : c.in-Some.slot < m.setup.slots = subst (λ (o : Option ℕ). IfSome o (λ s. s < m.setup.slots)) c.in-Some.is c.find_slot-empty.ensures.within in
    let puts = puts_no (written_value c.in-Some.slot c.slot_of-filled.result Stay c.args.self.now) c.in-Some.slot c.slot_of-filled.result (value_at m.snapshot c.in-Some.slot)
    m.snapshot.slots c.put.new.self.slots.items m.waiting c.put.new.self.waiting.items c.in_ok-fits.fits c.if-not-fits.true c.in_ok-fits.ensures.puts in
    add_refused m (machine c.put.new.self) c.args.add c.find_slot-known.result c.in-Some.slot c.slot_of-filled.result c.refused-then-not-fits.result
    c.find_slot-known.ensures.first (sym c.is_some.ensures ∙ c.if-is_some.false) empty (subst (λ n. c.in-Some.slot < n) c.args.self.now.slots.ok.0 within)
    (c.slot_of-filled.ensures ∙ ap (λ id. entry_of id c.args.add) c.unused_id.ensures) puts.0
    (same_rest m (machine c.put.new.self) c.put.new.self.slots.items c.put.new.self.waiting.items c.in_ok-fits.ensures.rest puts.1 puts.2) c.refused-then-not-fits.ensures

pub returns : goal.returns
returns c =
    let m : Machine = machine c.args.self.now in
    let empty : empty_slot m.snapshot.slots ≡ Some c.in-Some.slot = sym c.find_slot-empty.ensures.first ∙ c.in-Some.is in
    let within : c.in-Some.slot < m.setup.slots = subst (λ (o : Option ℕ). IfSome o (λ s. s < m.setup.slots)) c.in-Some.is c.find_slot-empty.ensures.within in
    let puts = puts_yes (written_value c.in-Some.slot c.slot_of-filled.result Stay c.args.self.now) c.in-Some.slot c.slot_of-filled.result (value_at m.snapshot c.in-Some.slot)
    m.snapshot.slots c.put.new.self.slots.items m.waiting c.put.new.self.waiting.items c.in_ok-fits.fits c.if-not-fits.false c.in_ok-fits.ensures.puts in
    add_accepted m (machine c.put.new.self) c.args.add c.find_slot-known.result c.in-Some.slot c.slot_of-filled.result c.put.new.self.slots.items c.put.new.self.waiting.items
    c.find_slot-known.ensures.first (sym c.is_some.ensures ∙ c.if-is_some.false) empty within (subst (λ n. c.in-Some.slot < n) c.args.self.now.slots.ok.0 within)
    (c.slot_of-filled.ensures ∙ ap (λ id. entry_of id c.args.add) c.unused_id.ensures) puts.0 c.in_ok-fits.ensures.rest puts.1 puts.2
