use Rattle.multi_source.proofs.Prelude.{arith}
use Rattle.multi_source.proofs.Answered.{if_ok}
use Rattle.multi_source.proofs.broadcast.Broadcast.announce.Goals as goal

pub returns : goal.returns
returns c =
    let next = c.next_anchor-anchor.ensures in
    let most = if_ok c.announce.result c.announce.ensures.train (λ train is. omega (arith, is.time, next.anchor, next.greatest)) in
    rw (← c.self.view_is) (record { train = c.announce.ensures.train; ok = c.announce.ensures.ok; cause = c.announce.ensures.cause; greatest = most })
