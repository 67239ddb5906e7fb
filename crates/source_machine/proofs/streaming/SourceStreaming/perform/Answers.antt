use Rattle.source_machine.proofs.Prelude.{length, subst, sym, AllTell}
use Rattle.source_machine.proofs.Advances.{source_grown, source_laid, source_next, streams_laid}
use Rattle.source_machine.proofs.AirLaws.{group_is_checked}
use Rattle.source_machine.proofs.Standing.{performs}
use Rattle.source_machine.proofs.streaming.SourceStreaming.perform.Goals as goal

pub invariant_of-self : goal.invariant_of-self
invariant_of-self c = source_grown _ c.lay_all.new.streams.items c.self.invariant c.in_err-lay_all.ensures.err

pub sent_pdus-requires-clause-laid : goal.sent_pdus-requires-clause-laid
sent_pdus-requires-clause-laid c =
    let next = rw (← c.self.view_is) at c.next_laying-laying.ensures in
    rw c.as_slice.ensures.value (streams_laid _ c.next_laying-laying.result c.lay_all.new.streams.items c.self.invariant next c.in_ok-lay_all.ensures.ok)

pub invariant_of-self-in_err-pdus : goal.invariant_of-self-in_err-pdus
invariant_of-self-in_err-pdus c =
    source_laid _ c.next_laying-laying.result c.lay_all.new.streams.items c.self.invariant c.in_ok-lay_all.ensures.ok

pub invariant_of-self-2 : goal.invariant_of-self-2
invariant_of-self-2 c =
    let next = rw (← c.self.view_is) at c.next_laying-laying.ensures in
    let below = rw (← c.self.view_is) at c.requires in
    source_next _ c.next_laying-laying.result c.lay_all.new.streams.items c.self.invariant below next c.in_ok-lay_all.ensures.ok

pub returns-clause-performed : goal.returns-clause-performed
returns-clause-performed c =
    let next = rw (← c.self.view_is) at c.next_laying-laying.ensures in
    let laying = c.next_laying-laying.result in
    let told = subst (λ first. AllTell laying.anchor laying.iso_us laying.count c.self.inside.streams.items (length c.self.inside.streams.items) first c.lay_all.new.stale)
    c.new-stale.ensures c.in_ok-lay_all.ensures.told in
    rw (← c.self.view_is)
    (performs _ c.next_laying-laying.result c.lay_all.new.streams.items c.in_ok-pdus.pdus c.lay_all.new.stale c.self.invariant
    (group_is_checked c.self.inside.plan.group) next c.in_ok-lay_all.ensures.ok told (rw (sym c.as_slice.ensures.value) c.in_ok-pdus.ensures))
