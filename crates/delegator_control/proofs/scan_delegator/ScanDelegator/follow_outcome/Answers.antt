use Rattle.delegator_control.proofs.Prelude.{◌<◌, ◌∙◌, ap, sym, subst, Machine, machine, arith}
use Rattle.delegator_choices.specs.State.Brings.{outcome_of}
use Rattle.delegator_control.proofs.Followed.{IsNear, is_near, slot_of_outcome}
use Rattle.delegator_control.proofs.Standing.{moved_nothing}
use Rattle.delegator_control.proofs.scan_delegator.ScanDelegator.follow_outcome.Goals as goal

pub returns-in-Ignored-clause-step : goal.returns-in-Ignored-clause-step
returns-in-Ignored-clause-step c = grind (arith, machine c.args.self.now, moved_nothing (machine c.args.self.now), c.in-Ignored.is)

pub go_on_train-requires-clause-within : goal.go_on_train-requires-clause-within
go_on_train-requires-clause-within c =
    let m : Machine = machine c.args.self.now in
    let near : IsNear c.in-Heard.slot m.snapshot =
    is_near m.setup m.snapshot c.requires.train c.in-Heard.slot (ap slot_of_outcome (sym c.requires.is) ∙ ap (λ b. slot_of_outcome (outcome_of b)) c.in-Heard.is) in
    subst (λ n. c.in-Heard.slot < n) (sym c.args.self.now.slots.ok.0) near.within

pub go_on_train-requires-clause-near : goal.go_on_train-requires-clause-near
go_on_train-requires-clause-near c =
    let m : Machine = machine c.args.self.now in
    (is_near m.setup m.snapshot c.requires.train c.in-Heard.slot (ap slot_of_outcome (sym c.requires.is) ∙ ap (λ b. slot_of_outcome (outcome_of b)) c.in-Heard.is)).near

pub go_on_group-requires-clause-within : goal.go_on_group-requires-clause-within
go_on_group-requires-clause-within c =
    let m : Machine = machine c.args.self.now in
    let near : IsNear c.in-Taken.slot m.snapshot =
    is_near m.setup m.snapshot c.requires.train c.in-Taken.slot (ap slot_of_outcome (sym c.requires.is) ∙ ap (λ b. slot_of_outcome (outcome_of b)) c.in-Taken.is) in
    subst (λ n. c.in-Taken.slot < n) (sym c.args.self.now.slots.ok.0) near.within

pub go_on_group-requires-clause-near : goal.go_on_group-requires-clause-near
go_on_group-requires-clause-near c =
    let m : Machine = machine c.args.self.now in
    (is_near m.setup m.snapshot c.requires.train c.in-Taken.slot (ap slot_of_outcome (sym c.requires.is) ∙ ap (λ b. slot_of_outcome (outcome_of b)) c.in-Taken.is)).near
