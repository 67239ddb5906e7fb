use Rattle.delegator_machine.proofs.Prelude.{refl, sym, ap, subst, slot_of, train_lost, on_any_err, Machine, machine, steps_of, Halves, StandsFor, arith}
use Rattle.delegator_machine.proofs.Standing.{snapshot_is, stands_settled}
use Rattle.delegator_machine.proofs.delegator.Delegator.lost.Goals as goal

pub returns-clause-stands : goal.returns-clause-stands
returns-clause-stands c setup calls stands =
    let old : Halves = record { scan = machine c.self.inside.scan; sink = c.self.inside.sink } in
    let before : StandsFor setup calls old = subst (StandsFor setup calls) (sym c.self.view_is) stands in
    stands_settled setup train_lost calls old c.settle.new.self (machine c.lost.new.self) c.is_on_group-was_on_group.result
    refl (ap (λ (m : Machine). m.setup) c.in_ok-lost.ensures.step) (c.in_ok-lost.ensures.stands (steps_of calls) before.steps)
    c.is_on_group-was_on_group.ensures c.settle.ensures.scan c.settle.ensures.sink before

pub returns-in_err-lost-clause-memory : goal.returns-in_err-lost-clause-memory
returns-in_err-lost-clause-memory c setup calls stands = grind (arith, machine, on_any_err, slot_of, snapshot_is)
