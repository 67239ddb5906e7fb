use Rattle.source_machine.proofs.Prelude.{◌≡◌, ◌-◌, arith, refl, subst, of_sender, HasTime, PutStops}
use Rattle.source_machine.proofs.Advances.{source_given}
use Rattle.source_machine.proofs.AirLaws.{group_is_checked}
use Rattle.source_machine.proofs.Lists.{on_err_of}
use Rattle.source_machine.proofs.Refusing.{put_refused, takes_unit}
use Rattle.source_machine.proofs.Standing.{stands_give}
use Rattle.source_machine.proofs.streaming.SourceStreaming.give.Goals as goal

pub invariant_of-self : goal.invariant_of-self
invariant_of-self c =
    let fit = rw (← c.self.view_is) at c.in_ok-check_unit.ensures.ok in
    source_given _ c.from.result c.index_mut.result.now c.give.new.self c.self.invariant (omega (arith, fit.has_stream, c.self.invariant.streams)) c.index_mut.ensures.value
    (rw c.in_err-give.ensures.err (record { info = refl; laid = omega arith }))

pub invariant_of-self-2 : goal.invariant_of-self-2
invariant_of-self-2 c =
    let fit = rw (← c.self.view_is) at c.in_ok-check_unit.ensures.ok in
    source_given _ c.from.result _ _ c.self.invariant (omega (arith, fit.has_stream, c.self.invariant.streams)) c.index_mut.ensures.value c.in_ok-give.ensures.ok.grows

pub returns-in_err-give-clause-cause : goal.returns-in_err-give-clause-cause
returns-in_err-give-clause-cause c =
    let fit = rw (← c.self.view_is) at c.in_ok-check_unit.ensures.ok in
    let limit = rw (← c.self.view_is) at c.limit-limit.ensures in
    let is = rw (let at : c.from.result ≡ c.args.bis - 1 = omega arith in at) at c.index_mut.ensures.value in
    let stops = subst (λ l. PutStops c.index_mut.result.now.sender c.args.time l c.args.octets.now c.in_err-give.field-0.0) limit c.in_err-give.ensures.fault in
    rw (← c.self.view_is)
    (on_err_of _ c.from_residual-in_err-give.result (of_sender c.in_err-give.field-0.0) c.from_residual-in_err-give.ensures.1
    (λ calls airs stands are. put_refused _ calls airs c.args.bis c.args.time c.args.octets.now c.index_mut.result.now c.in_err-give.field-0.0 stands are
    c.self.invariant (group_is_checked c.self.inside.plan.group) fit (omega arith) is stops))

pub returns-clause-ok : goal.returns-clause-ok
returns-clause-ok c =
    let fit = rw (← c.self.view_is) at c.in_ok-check_unit.ensures.ok in
    let at : c.from.result ≡ c.args.bis - 1 = omega arith in
    let is = rw at at c.index_mut.ensures.value in
    rw (← c.self.view_is) (λ calls stands.
    rw at (stands_give _ calls c.args.bis c.args.time c.limit-limit.result c.args.octets.now c.index_mut.result.now c.give.new.self stands
    (omega arith) (omega (arith, fit.has_stream, c.self.invariant.streams)) is c.in_ok-give.ensures.ok))

pub returns-clause-accepted : goal.returns-clause-accepted
returns-clause-accepted c =
    let fit = rw (← c.self.view_is) at c.in_ok-check_unit.ensures.ok in
    let limit = rw (← c.self.view_is) at c.limit-limit.ensures in
    let is = rw (let at : c.from.result ≡ c.args.bis - 1 = omega arith in at) at c.index_mut.ensures.value in
    let order = subst (HasTime c.index_mut.result.now.sender c.args.time) limit c.in_ok-give.ensures.ok.order in
    rw (← c.self.view_is) (λ calls airs stands are. takes_unit _ calls airs c.args.bis c.args.time c.args.octets.now c.index_mut.result.now stands are
    c.self.invariant (group_is_checked c.self.inside.plan.group) fit (omega arith) is order c.in_ok-give.ensures.ok.room)
