use Rattle.delegator_control.proofs.Prelude.{ℕ, ◌≡◌, ◌<◌, ◌∙◌, ap, sym, subst, Option, Some, true, false, IfSome, is_none, err_from_is_err_and, Remove, slot_with, held_slot, Machine, machine, status_at, arith}
use Rattle.delegator_history.specs.declared.replies.Cause.TheVariants as causes
use Rattle.delegator_control.proofs.Apart.{emptied, one}
use Rattle.delegator_control.proofs.Serving.{refused, remove_unknown, remove_synced, remove_accepted}
use Rattle.delegator_control.proofs.scan_delegator.ScanDelegator.remove.Goals as goal

pub returns-in_default : goal.returns-in_default
returns-in_default c =
    let m : Machine = machine c.args.self.now in
    refused (Remove c.args.source_id) m causes.SourceUnknown c.refused.result
    (remove_unknown m.snapshot c.args.source_id (sym c.find_slot-found.ensures.first ∙ c.in_default.is)) c.refused.ensures

pub returns-then-is_on : goal.returns-then-is_on
returns-then-is_on c =
    let m : Machine = machine c.args.self.now in
    let found : slot_with c.args.source_id m.snapshot.slots ≡ Some c.in-Some.slot = sym c.find_slot-found.ensures.first ∙ c.in-Some.is in
    let held = held_slot c.args.source_id m.snapshot.slots c.in-Some.slot found in
    refused (Remove c.args.source_id) m causes.StillSynced c.refused-then-is_on.result
    (remove_synced m.snapshot c.args.source_id c.in-Some.slot held.0 true found held.1 (sym c.is_on.ensures ∙ c.if-is_on.true)) c.refused-then-is_on.ensures

pub returns : goal.returns
returns c =
    let m : Machine = machine c.args.self.now in
    let found : slot_with c.args.source_id m.snapshot.slots ≡ Some c.in-Some.slot = sym c.find_slot-found.ensures.first ∙ c.in-Some.is in
    let held = held_slot c.args.source_id m.snapshot.slots c.in-Some.slot found in
    let within : c.in-Some.slot < m.setup.slots = subst (λ (o : Option ℕ). IfSome o (λ s. s < m.setup.slots)) c.in-Some.is c.find_slot-found.ensures.within in
    remove_accepted m _ c.args.source_id c.in-Some.slot held.0 c.set_slot.new.self.slots.items c.put_notice.new.waiting.items found held.1
    (sym c.is_on.ensures ∙ c.if-is_on.false) within (subst (λ n. c.in-Some.slot < n) c.args.self.now.slots.ok.0 within) c.set_slot.ensures.rest
    c.set_slot.ensures.slots (grind (arith, one, emptied, status_at))

pub returns-in_err-put_notice : goal.returns-in_err-put_notice
returns-in_err-put_notice c =
    let m : Machine = machine c.args.self.now in
    let found : slot_with c.args.source_id m.snapshot.slots ≡ Some c.in-Some.slot = sym c.find_slot-found.ensures.first ∙ c.in-Some.is in
    let held = held_slot c.args.source_id m.snapshot.slots c.in-Some.slot found in
    let p = err_from_is_err_and c.from_residual.result c.from_residual.ensures.1 in
    let none = remove_synced m.snapshot c.args.source_id c.in-Some.slot held.0 false found held.1 (sym c.is_on.ensures ∙ c.if-is_on.false) in
    rw p.1 (ap (λ waiting. record m { waiting = waiting }) c.in_err-put_notice.ensures.err, ap is_none none)
