use Rattle.source_machine.proofs.Prelude.{length, subst, AllTell}
use Rattle.source_machine.proofs.Advances.{source_grown, source_next}
use Rattle.source_machine.proofs.AirLaws.{group_is_checked}
use Rattle.source_machine.proofs.Standing.{advances}
use Rattle.source_machine.proofs.streaming.SourceStreaming.lay_next.Goals as goal

pub invariant_of-self : goal.invariant_of-self
invariant_of-self c = source_grown _ c.lay_all.new.streams.items c.self.invariant c.in_err-lay_all.ensures.err

pub invariant_of-self-2 : goal.invariant_of-self-2
invariant_of-self-2 c =
    let next = rw (← c.self.view_is) at c.next_laying-laying.ensures in
    let below = rw (← c.self.view_is) at c.requires in
    source_next _ c.next_laying-laying.result c.lay_all.new.streams.items c.self.invariant below next c.in_ok-lay_all.ensures.ok

pub returns-clause-advanced : goal.returns-clause-advanced
returns-clause-advanced c =
    let next = rw (← c.self.view_is) at c.next_laying-laying.ensures in
    let laying = c.next_laying-laying.result in
    let told = subst (λ first. AllTell laying.anchor laying.iso_us laying.count c.self.inside.streams.items (length c.self.inside.streams.items) first c.lay_all.new.stale)
    c.new-stale.ensures c.in_ok-lay_all.ensures.told in
    rw (← c.self.view_is) (advances _ c.next_laying-laying.result c.lay_all.new.streams.items c.lay_all.new.stale c.self.invariant
    (group_is_checked c.self.inside.plan.group) next c.in_ok-lay_all.ensures.ok told)
