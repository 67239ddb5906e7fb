use Rattle.delegator_control.proofs.Prelude.{◌≡◌, ◌<◌, ◌∙◌, ap, sym, subst, true, [], same_Some, Snapshot, on_train, slot_of, followed, Machine, machine}
use Rattle.delegator_control.proofs.Followed.{near_itself, stands_at, train_status, went_to}
use Rattle.delegator_control.proofs.scan_delegator.ScanDelegator.go_on_train.Goals as goal

pub returns-clause-step : goal.returns-clause-step
returns-clause-step c =
    let m : Machine = machine c.args.self.now in
    let mid : Machine = machine c.note_status.new.self in
    went_to m mid _ c.args.slot (on_train c.args.slot) c.encrypted_then-is_encrypted.result [] (followed c.args.slot c.args.encrypted)
    (record { is_synced = true; is_encrypted = c.encrypted_then-is_encrypted.result; bits = [] })
    c.requires.within c.requires.near (near_itself c.args.slot) c.in_ok-note_status.ensures.ok
    (ap (λ (s : Snapshot). record mid { snapshot = s }) (c.join_train.ensures mid.snapshot))
    (λ i. stands_at m.snapshot (on_train c.args.slot) (c.encrypted_then-is_encrypted.ensures i) [])
    (train_status c.args.slot c.encrypted_then-is_encrypted.result)

pub invariant_of-self-clause-within : goal.invariant_of-self-clause-within
invariant_of-self-clause-within c slot is =
    let mid : Machine = machine c.note_status.new.self in
    let here : c.args.slot ≡ slot = same_Some c.args.slot slot (sym (ap (λ (s : Snapshot). slot_of s.place) (c.join_train.ensures mid.snapshot)) ∙ is) in
    subst (λ k. k < mid.setup.slots) here (subst (λ (a : Machine). c.args.slot < a.setup.slots) (sym c.in_ok-note_status.ensures.ok) c.requires.within)
