use Rattle.source_machine.proofs.Prelude.{arith}
use Rattle.source_machine.proofs.SendersLay.{plain_lays, timed_lays}
use Rattle.source_machine.proofs.sender.Sender.lay.Goals as goal

pub returns-in-Unframed-clause-laid : goal.returns-in-Unframed-clause-laid
returns-in-Unframed-clause-laid c =
    grind (
      arith,
      c.in-Unframed.is,
      plain_lays c.args.anchor c.in-Unframed.out c.lay_event_in.new.self c.lay_event_in.new.pdus c.lay_event_in.result c.lay_event_in.ensures.stands c.lay_event_in.ensures.laid,
    )

pub returns-in-Framed-clause-laid : goal.returns-in-Framed-clause-laid
returns-in-Framed-clause-laid c =
    rw c.in-Framed.is
    (timed_lays c.args.anchor c.in-Framed.out c.pack_event_in.new.self c.pack_event_in.new.pdus c.pack_event_in.result c.pack_event_in.ensures.laid)
