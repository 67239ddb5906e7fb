use Rattle.delegator_machine.proofs.Prelude.{refl, sym, ap, subst, slot_of, control_heard, on_any_err, Machine, machine, steps_of, Halves, StandsFor, arith}
use Rattle.delegator_machine.proofs.Standing.{snapshot_is, stands_settled}
use Rattle.delegator_machine.proofs.delegator.Delegator.control.Goals as goal

pub returns-clause-stands : goal.returns-clause-stands
returns-clause-stands c setup calls stands =
    let old : Halves = record { scan = machine c.self.inside.scan; sink = c.self.inside.sink } in
    let before : StandsFor setup calls old = subst (StandsFor setup calls) (sym c.self.view_is) stands in
    stands_settled setup (control_heard c.args.pdu.now) calls old c.settle.new.self (machine c.control.new.self) c.is_on_group-was_on_group.result
    refl (ap (λ (m : Machine). m.setup) c.in_ok-heard.ensures.step) (c.in_ok-heard.ensures.stands (steps_of calls) before.steps)
    c.is_on_group-was_on_group.ensures c.settle.ensures.scan c.settle.ensures.sink before

pub returns-in_err-heard-clause-memory : goal.returns-in_err-heard-clause-memory
returns-in_err-heard-clause-memory c setup calls stands = grind (arith, machine, on_any_err, snapshot_is)

pub returns-in_err-heard-clause-slot : goal.returns-in_err-heard-clause-slot
returns-in_err-heard-clause-slot c setup calls stands = grind (arith, machine, on_any_err, slot_of, snapshot_is)
