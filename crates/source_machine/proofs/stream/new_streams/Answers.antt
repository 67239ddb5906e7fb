use Rattle.source_machine.proofs.Prelude.{◌≡◌, ◌+◌}
use Rattle.source_machine.proofs.Standing.{one_more_stream}
use Rattle.source_machine.proofs.stream.new_streams.Goals as goal

pub streams-preserved : goal.streams-preserved
streams-preserved c =
    let is = rw c.unwrap-bis.ensures at c.new.ensures in
    let at : c.unwrap-bis.result ≡ c.streams.n + 1 = is.1 in
    let more = one_more_stream c.args.group.now.info c.unwrap-bis.result c.streams.n c.streams.streams.items c.push.new.self.items c.in_ok-new.field-0
    c.streams.invariant.count c.streams.invariant.new c.in_ok-push.ensures.items at c.in_ok-new.ensures in
    record { count = more.0; new = more.1 }
