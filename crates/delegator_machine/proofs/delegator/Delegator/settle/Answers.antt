use Rattle.delegator_machine.proofs.Prelude.{◌∙◌, sym, ap, subst, ◌&&◌, not, ◌∷◌, if◌then◌else◌, has_group, Halves, leave}
use Rattle.group_sink.specs.State.Sinks.{StandsFor as SinkStands}
use Rattle.delegator_machine.proofs.delegator.Delegator.settle.Goals as goal

pub returns-then-has_left-clause-sink : goal.returns-then-has_left-clause-sink
returns-then-has_left-clause-sink c past stands =
    let is = c.is_on_group.ensures ∙ ap (λ (d : Halves). has_group d.scan.snapshot.place) c.self.view_is in
    let left = sym c.if-has_left.true ∙ (c.has_left.ensures ∙ ap (λ on. c.args.was_on_group && not on) is) in
    subst (λ b. SinkStands (if b then leave ∷ past else past) c.leave.new.self) left (c.leave.ensures past)
