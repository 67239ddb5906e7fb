use Rattle.group_sink.proofs.Prelude.{◌≡◌, hear_first, Framed}
use Rattle.group_sink.proofs.hearing.hear_framed.Given as goal

abbrev pub invariant-subevents : goal.invariant-subevents
invariant-subevents g l =
    Framed l.framed ≡ hear_first l.numbers.group.info l.event (g.E.StreamEvent.pdus l.sent) l.subevent (Framed l.fn.framed)
