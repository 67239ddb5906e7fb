use Rattle.delegator_control.proofs.Prelude.{◌≡◌, ◌<◌, sym, subst, None, get_or, option_map, get_or_read_under, on_ok_weaker, change, received, value, Machine, machine, status_seen, arith}
use Rattle.delegator_control.proofs.scan_delegator.ScanDelegator.note_status.Goals as goal

pub returns-clause-ok : goal.returns-clause-ok
returns-clause-ok c =
    let m : Machine = machine c.args.self.now in
    let was = c.status_after-before.ensures.same m.snapshot in
    let below : c.from.result < m.setup.slots = subst (λ k. k < m.setup.slots) (sym c.from.ensures) c.requires.within in
    let entry : c.index-held.result.now ≡ get_or m.snapshot.slots c.args.slot None = grind (arith, get_or_read_under, get_or) in
    on_ok_weaker c.note_standing.result (grind (arith, change, value, option_map, received, status_seen)) c.note_standing.ensures.ok
