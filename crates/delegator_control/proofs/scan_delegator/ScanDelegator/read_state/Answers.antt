use Rattle.delegator_control.proofs.Prelude.{◌≡◌, ◌<◌, List, ℕ, sym, subst, None, get_or, option_map, IfOk, get_or_read_under, received, value, Machine, machine, arith}
use Rattle.delegator_control.proofs.scan_delegator.ScanDelegator.read_state.Goals as goal

pub returns-clause-value : goal.returns-clause-value
returns-clause-value c =
    let m : Machine = machine c.args.self.now in
    let status = c.status_after-status.ensures.same m.snapshot in
    let below : c.from.result < m.setup.slots = subst (λ k. k < m.setup.slots) (sym c.from.ensures) c.requires in
    let entry : c.index.result.now ≡ get_or m.snapshot.slots c.args.slot None = grind (arith, get_or_read_under, get_or) in
    subst (λ (v : List ℕ). IfOk c.value_as.result (λ octets. octets ≡ v)) (λ i. value (option_map (received (status i)) (entry i))) c.value_as.ensures.value

pub returns-clause-memory : goal.returns-clause-memory
returns-clause-memory c = grind (arith, machine, get_or, get_or_read_under)
