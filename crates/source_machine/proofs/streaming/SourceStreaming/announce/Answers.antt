use Rattle.source_machine.proofs.Prelude.{ap, ◌∙◌, BigInfo}
use Rattle.source_machine.proofs.Refusing.{announced}
use Rattle.source_machine.proofs.streaming.SourceStreaming.announce.Goals as goal

pub returns-clause-train : goal.returns-clause-train
returns-clause-train c =
    let info = rw (← c.self.view_is) at c.group_info-info.ensures.info in
    let anchor = rw (← c.self.view_is) at c.next_anchor.ensures.anchor in
    rw (← c.self.view_is) (rw (info, anchor) at c.in_ok-train.ensures)

pub returns-clause-told : goal.returns-clause-told
returns-clause-told c =
    let info = rw (← c.self.view_is) at c.group_info-info.ensures.info in
    let anchor = rw (← c.self.view_is) at c.next_anchor.ensures.anchor in
    rw (← c.self.view_is) (c.an_announcement_is_read.ensures _ _ _ _ _ _ (rw info at c.group_info-info.ensures.some) (rw (info, anchor) at c.in_ok-train.ensures))

pub returns-clause-ok : goal.returns-clause-ok
returns-clause-ok c =
    let info = rw (← c.self.view_is) at c.group_info-info.ensures.info in
    rw (← c.self.view_is) (λ calls stands. announced _ calls c.from.result (c.from.ensures ∙ ap (λ (i : BigInfo). i.bn) info) c.if-event-from-ge-COUNTER_END.false stands)
