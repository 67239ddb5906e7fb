use Rattle.source_machine.proofs.Prelude.{◌≡◌, ◌-◌, get_or, arith, subst}
use Rattle.source_machine.proofs.AirLaws.{group_is_checked}
use Rattle.source_machine.proofs.HeardEvents.{heard}
use Rattle.source_machine.proofs.streaming.SourceStreaming.heard_at.Goals as goal

pub returns-clause-ok : goal.returns-clause-ok
returns-clause-ok c =
    let is : c.index-stream.result.now ≡ get_or c.self.inside.streams.items (c.args.bis - 1) c.index-stream.result.now =
    subst (λ i. c.index-stream.result.now ≡ get_or c.self.inside.streams.items i c.index-stream.result.now) (omega arith) c.index-stream.ensures in
    rw (← c.self.view_is) (λ calls airs stands are.
    heard _ calls airs c.args.back c.args.bis c.args.subevent c.index-stream.result.now c.sent.result.now c.self.invariant
    (group_is_checked c.self.inside.plan.group) stands are (omega arith) (omega arith) (omega arith) (omega arith) c.requires is c.sent.ensures)
