use Rattle.source_machine.proofs.Prelude.{◌≡◌, ◌+◌, ◌-◌, length, subst, arith, horizon_of, Keeps}
use Rattle.source_machine.proofs.Lent.{all_lent, lends}
use Rattle.source_machine.proofs.stream.Stream.sent_last.Goals as goal

pub invariant_of-result : goal.invariant_of-result
invariant_of-result c =
    let group = c.args.group.now in
    let laid = c.self.inside.laid in
    let is = rw (← c.self.view_is) at c.requires.laid in
    let keeps = subst (λ info. Keeps info laid.capacity laid.items) is.group c.self.invariant in
    let room : laid.capacity ≡ horizon_of group.info + 32 = keeps.room in
    let place : c.len.result - (c.capacity.result - 32 + 1) + (horizon_of group.info + 1) ≡ length laid.items =
    omega (arith, c.len.ensures.len, c.capacity.ensures.capacity, room, is.kept) in
    all_lent group.info _ laid.capacity _ c.args.carried.now.aheads c.args.carried.now.places keeps is group.bounds.bn group.bounds.whole_groups
    c.requires.aheads c.requires.places place (omega (arith, c.len.ensures.len, room, keeps.within, group.bounds.horizon)) (omega (arith, group.bounds.nse))

pub returns : goal.returns
returns c =
    let group = c.args.group.now in
    let laid = c.self.inside.laid in
    let is = rw (← c.self.view_is) at c.requires.laid in
    let keeps = subst (λ info. Keeps info laid.capacity laid.items) is.group c.self.invariant in
    let room : laid.capacity ≡ horizon_of group.info + 32 = keeps.room in
    let place : c.len.result - (c.capacity.result - 32 + 1) + (horizon_of group.info + 1) ≡ length laid.items =
    omega (arith, c.len.ensures.len, c.capacity.ensures.capacity, room, is.kept) in
    rw (← c.self.view_is)
    (lends group.info _ laid.capacity _ c.args.carried.now.aheads c.args.carried.now.places keeps is group.bounds.bn group.bounds.whole_groups
    c.requires.aheads c.requires.places place)
