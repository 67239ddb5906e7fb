use Rattle.source_machine.proofs.Prelude.{◌≡◌, ◌-◌, get_or, arith, subst}
use Rattle.source_machine.proofs.AirLaws.{group_is_checked}
use Rattle.source_machine.proofs.Lent.{sends_on}
use Rattle.source_machine.proofs.streaming.SourceStreaming.sent_on.Goals as goal

pub returns-clause-sent : goal.returns-clause-sent
returns-clause-sent c =
    let is : c.index-stream.result.now ≡ get_or c.self.inside.streams.items (c.args.bis - 1) c.index-stream.result.now =
    subst (λ i. c.index-stream.result.now ≡ get_or c.self.inside.streams.items i c.index-stream.result.now) (omega arith) c.index-stream.ensures in
    rw (← c.self.view_is) (λ calls airs stands are.
    sends_on _ calls airs c.args.bis c.index-stream.result.now c.sent_last.result c.self.invariant (group_is_checked c.self.inside.plan.group) stands are
    (omega arith) (omega arith) (omega arith) is c.sent_last.ensures)
