use Rattle.delegator_machine.proofs.Prelude.{◌∙◌, refl, sym, ap, subst, slot_of, sync_to_group, BigSync, fresh_on, on_any_err, Machine, machine, steps_of, by_numbers, group_calls, Halves, StandsFor, arith}
use Rattle.delegator_machine.proofs.Standing.{snapshot_is, stands_joined}
use Rattle.delegator_machine.proofs.delegator.Delegator.sync_to_group.Goals as goal

pub returns-clause-stands : goal.returns-clause-stands
returns-clause-stands c setup calls stands =
    let old : Halves = record { scan = machine c.self.inside.scan; sink = c.self.inside.sink } in
    let before : StandsFor setup calls old = subst (StandsFor setup calls) (sym c.self.view_is) stands in
    let big_sync : BigSync = c.args.big_sync.now in
    stands_joined setup (sync_to_group big_sync) calls old (record { scan = machine c.tune.new.self; sink = c.sync_to_group.new.self }) big_sync
    refl (ap (λ (m : Machine). m.setup) c.in_ok-tune.ensures.step) (c.in_ok-tune.ensures.stands (steps_of calls) big_sync before.steps)
    (c.sync_to_group.ensures (by_numbers big_sync) (group_calls setup calls) (c.in_ok-receivers.ensures ∙ ap fresh_on c.by_numbers.ensures))
    before

pub returns-in_err-receivers-clause-memory : goal.returns-in_err-receivers-clause-memory
returns-in_err-receivers-clause-memory c setup calls stands = grind (arith, on_any_err)

pub returns-in_err-tune-clause-memory : goal.returns-in_err-tune-clause-memory
returns-in_err-tune-clause-memory c setup calls stands = grind (arith, machine, on_any_err, slot_of, snapshot_is)
