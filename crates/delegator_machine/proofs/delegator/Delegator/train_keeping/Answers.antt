use Rattle.delegator_machine.proofs.Prelude.{◌≡◌, ◌∙◌, option_copied, sym, ap, subst, Train, outcome_by, done_by_outcome, big_sync_in, is_followed, on_any_err, machine, moved, steps_of, Halves, StandsFor, arith}
use Rattle.delegator_choices.specs.State.Brings.{outcome_of}
use Rattle.delegator_machine.proofs.Trains.{base_followed, followed_so, joined_followed, stands_trained}
use Rattle.delegator_machine.proofs.delegator.Delegator.train_keeping.Goals as goal

pub returns-clause-stands : goal.returns-clause-stands
returns-clause-stands c setup calls stands =
    let old : Halves = record { scan = machine c.self.inside.scan; sink = c.self.inside.sink } in
    let before : StandsFor setup calls old = subst (StandsFor setup calls) (sym c.self.view_is) stands in
    let train : Train = record { address_type = c.args.address_type; sid = c.args.sid; ext = c.args.ext.now; adv = c.args.adv.now; acad = c.args.acad.now; now = c.args.now } in
    let heard : outcome_of c.in_ok-outcome.outcome ≡ outcome_by old.scan.setup old.scan.snapshot train = c.in_ok-outcome.ensures.outcome in
    stands_trained setup train calls old (record { scan = machine c.follow.new.self; sink = c.join.new.sink })
    (option_copied c.big_sync.result) c.in_ok-made.made (c.big_sync.ensures ∙ ap big_sync_in heard) c.in_ok-made.ensures.made
    c.join.ensures.none c.join.ensures.some (c.in_ok-heard.ensures.step ∙ ap (λ outcome. moved (done_by_outcome outcome) old.scan) heard)
    (c.in_ok-heard.ensures.stands (steps_of calls) train heard before.steps) before

pub returns-in_err-outcome-clause-memory : goal.returns-in_err-outcome-clause-memory
returns-in_err-outcome-clause-memory c setup calls stands = grind (arith, machine, on_any_err, followed_so, base_followed, outcome_by)

pub returns-in_err-made-clause-memory : goal.returns-in_err-made-clause-memory
returns-in_err-made-clause-memory c setup calls stands =
    grind (arith, machine, on_any_err, followed_so, joined_followed, option_copied, outcome_by, big_sync_in)

pub returns-in_err-heard-clause-memory : goal.returns-in_err-heard-clause-memory
returns-in_err-heard-clause-memory c setup calls stands = grind (arith, machine, on_any_err, followed_so, is_followed)
