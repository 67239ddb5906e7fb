use Rattle.isoal_framed.proofs.Prelude.{arith}
use Rattle.isoal_framed.proofs.Senders.{accepted_sender}
use Rattle.isoal_framed.proofs.framed_out.FramedOut.accept.Goals as goal

pub invariant_of-self-2 : goal.invariant_of-self-2
invariant_of-self-2 c =
    grind (arith, c.in_ok-push_back.ensures.items, accepted_sender c.self.inside.group.info c.self.inside.sent c.self.inside.queue.items (record { time = c.args.time; octets = c.in_ok-octets.octets }) c.self.invariant)
