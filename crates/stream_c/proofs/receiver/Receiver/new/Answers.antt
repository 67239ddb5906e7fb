use Rattle.stream_c.proofs.Prelude.{arith, Stay}
use Rattle.stream_c.proofs.Framings.{framed_new, plain_new}
use Rattle.stream_c.proofs.receiver.Receiver.new.Goals as goal

pub returns-then-group-eq0 : goal.returns-then-group-eq0
returns-then-group-eq0 c =
    let stay : Stay = record {
      info = c.args.group.now.info;
      bis = c.args.bis;
      first = c.args.first_event;
      origin = c.args.anchor;
      delay = c.args.delay;
    } in
    record { by_framing = plain_new stay c.in_ok-unframed.unframed c.if-group-eq0.true c.in_ok-unframed.ensures }

pub returns : goal.returns
returns c =
    let stay : Stay = record {
      info = c.args.group.now.info;
      bis = c.args.bis;
      first = c.args.first_event;
      origin = c.args.anchor;
      delay = c.args.delay;
    } in
    record { by_framing = framed_new stay c.in_ok-framed.framed (omega arith) c.in_ok-framed.ensures }
