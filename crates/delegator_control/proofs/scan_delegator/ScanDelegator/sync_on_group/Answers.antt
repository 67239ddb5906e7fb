use Rattle.delegator_control.proofs.Prelude.{◌++◌, ◌∙◌, ap, sym, Some, None, Snapshot, on_group, slot_of, placed, Machine, machine, arith}
use Rattle.delegator_control.proofs.Changes.{none_some, tuned_changes}
use Rattle.delegator_control.proofs.scan_delegator.ScanDelegator.sync_on_group.Goals as goal

pub returns-clause-step : goal.returns-clause-step
returns-clause-step c =
    let m : Machine = machine c.args.self.now in
    let mid : Machine = machine c.note_move.new.self in
    ap (λ (s : Snapshot). record mid { snapshot = s }) (c.join.ensures mid.snapshot)
    ∙ ap (λ (a : Machine). record a { snapshot = placed (Some (on_group None)) None None a.snapshot }) c.in_ok-note_move.ensures.ok
    ∙ (λ i. record m { snapshot = placed (Some (on_group None)) None None m.snapshot; waiting = m.waiting ++ tuned_changes m.setup.slots m.snapshot i })

pub invariant_of-self-clause-within : goal.invariant_of-self-clause-within
invariant_of-self-clause-within c slot is =
    grind (
      arith,
      machine c.note_move.new.self,
      c.join.ensures (machine c.note_move.new.self).snapshot,
      none_some slot (sym (ap (λ (s : Snapshot). slot_of s.place) (c.join.ensures (machine c.note_move.new.self).snapshot)) ∙ is),
    )
