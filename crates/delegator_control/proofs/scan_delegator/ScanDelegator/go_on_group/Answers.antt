use Rattle.delegator_control.proofs.Prelude.{◌≡◌, ◌<◌, ◌∙◌, ap, sym, subst, refl, true, Some, same_Some, Snapshot, on_group, slot_of, joined, Machine, machine}
use Rattle.delegator_control.proofs.Followed.{group_status, near_itself, went_to}
use Rattle.delegator_control.proofs.scan_delegator.ScanDelegator.go_on_group.Goals as goal

pub returns-clause-step : goal.returns-clause-step
returns-clause-step c =
    let m : Machine = machine c.args.self.now in
    let mid : Machine = machine c.note_status.new.self in
    went_to m mid _ c.args.slot (on_group (Some c.args.slot)) c.args.encrypted c.args.taken (joined c.args.slot c.args.encrypted c.args.taken)
    (record { is_synced = true; is_encrypted = c.args.encrypted; bits = c.as_slice.result.now })
    c.requires.within c.requires.near (near_itself c.args.slot) c.in_ok-note_status.ensures.ok
    (ap (λ (s : Snapshot). record mid { snapshot = s }) (c.join_group.ensures mid.snapshot)) refl
    ((λ i. record { is_synced = true; is_encrypted = c.args.encrypted; bits = c.as_slice.ensures.same i }) ∙ group_status c.args.slot c.args.encrypted c.args.taken)

pub invariant_of-self-clause-within : goal.invariant_of-self-clause-within
invariant_of-self-clause-within c slot is =
    let mid : Machine = machine c.note_status.new.self in
    let here : c.args.slot ≡ slot = same_Some c.args.slot slot (sym (ap (λ (s : Snapshot). slot_of s.place) (c.join_group.ensures mid.snapshot)) ∙ is) in
    subst (λ k. k < mid.setup.slots) here (subst (λ (a : Machine). c.args.slot < a.setup.slots) (sym c.in_ok-note_status.ensures.ok) c.requires.within)
