use Rattle.delegator_control.proofs.Prelude.{◌≡◌, ◌<◌, ◌∙◌, ap, sym, subst, Some, is_some, on_ok_weaker, on_err_weaker, append-nil, slot_of, Machine, machine, status_seen, arith}
use Rattle.delegator_control.proofs.Changes.{moved_none, note_done}
use Rattle.delegator_control.proofs.Wanting.{on_any_err}
use Rattle.delegator_control.proofs.scan_delegator.ScanDelegator.note_move.Goals as goal

pub returns-in_default-clause-ok : goal.returns-in_default-clause-ok
returns-in_default-clause-ok c = grind (arith, machine, slot_of, append-nil, moved_none)

pub returns-clause-ok : goal.returns-clause-ok
returns-clause-ok c =
    let m : Machine = machine c.args.self.now in
    let is : slot_of m.snapshot.place ≡ Some c.in-Some.slot = sym c.slot.ensures ∙ c.in-Some.is in
    let within : c.in-Some.slot < m.setup.slots = c.args.self.now.within c.in-Some.slot is in
    on_ok_weaker c.note_standing.result (λ put. λ i. record m {
      waiting = (put ∙ note_done m.setup.slots c.in-Some.slot c.from.result m.snapshot m.waiting c.args.moves c.index-held.result.now
          (status_seen c.status_after-before.result) (status_seen c.status_after-after.result) is within (subst (λ n. c.in-Some.slot < n) c.args.self.now.slots.ok.0 within)
          c.from.ensures c.index-held.ensures (c.status_after-before.ensures.same m.snapshot) (c.status_after-after.ensures.same m.snapshot)) i;
    }) c.note_standing.ensures.ok

pub returns-clause-err : goal.returns-clause-err
returns-clause-err c = on_err_weaker c.note_standing.result (λ same. λ i. record (machine c.args.self.now) { waiting = same i }) c.note_standing.ensures.err

pub returns-clause-memory : goal.returns-clause-memory
returns-clause-memory c = on_any_err c.note_standing.result (ap is_some (sym c.slot.ensures ∙ c.in-Some.is))
