use Rattle.group_sink.proofs.Prelude.{◌≡◌, hear_first, Unframed}
use Rattle.group_sink.proofs.hearing.hear_unframed.Given as goal

abbrev pub invariant-subevents : goal.invariant-subevents
invariant-subevents g l =
    Unframed l.unframed ≡ hear_first l.numbers.group.info l.event (g.E.StreamEvent.pdus l.sent) l.subevent (Unframed l.fn.unframed)
