use Rattle.source_machine.proofs.Prelude.{◌≡◌, ◌-◌, true, false, sym, ◌∙◌, ap, get_or, arith, subst, option_map, answer_of, HasTime}
use Rattle.source_machine.proofs.Refusing.{fits_then, late_then}
use Rattle.source_machine.proofs.streaming.SourceStreaming.misfit.Goals as goal

pub returns-in-Err : goal.returns-in-Err
returns-in-Err c calls stands = c.in-Err.ensures.misfit calls c.args.time

pub returns-then-not-has_time : goal.returns-then-not-has_time
returns-then-not-has_time c =
    let fit = rw (← c.self.view_is) at c.in-Ok.ensures.ok in
    let limit = rw (← c.self.view_is) at c.limit-limit.ensures in
    let is : c.index.result.now ≡ get_or c.self.inside.streams.items (c.args.bis - 1) c.index.result.now =
    subst (λ i. c.index.result.now ≡ get_or c.self.inside.streams.items i c.index.result.now) (omega arith) c.index.ensures in
    rw (← c.self.view_is)
    (λ calls stands. sym (ap (option_map answer_of) (late_then _ calls c.args.bis c.args.time c.args.octets.now c.index.result.now stands c.self.invariant fit (omega arith) is
    (λ has. let wrong : true ≡ false = sym (c.has_time.ensures.1 (subst (HasTime c.index.result.now.sender c.args.time) (sym limit) has)) ∙ c.if-not-has_time.true in cc))))

pub returns : goal.returns
returns c =
    let fit = rw (← c.self.view_is) at c.in-Ok.ensures.ok in
    let limit = rw (← c.self.view_is) at c.limit-limit.ensures in
    let is : c.index.result.now ≡ get_or c.self.inside.streams.items (c.args.bis - 1) c.index.result.now =
    subst (λ i. c.index.result.now ≡ get_or c.self.inside.streams.items i c.index.result.now) (omega arith) c.index.ensures in
    rw (← c.self.view_is)
    (λ calls stands. sym (ap (option_map answer_of) (fits_then _ calls c.args.bis c.args.time c.args.octets.now c.index.result.now stands c.self.invariant fit (omega arith) is
    (subst (HasTime c.index.result.now.sender c.args.time) limit (c.has_time.ensures.0 c.if-not-has_time.false)))))
